-- What is handed to the writer: eight flat lists (document 01, "From Rust's shapes to ours"), and the nested lists that they stand for.
use Rattle.std.specs.Prelude.{ℕ, ◌+◌, List, [], ◌∷◌, map, length}
use Rattle.segment.specs.Records.{Posting, Term, Given}
use Rattle.segment.specs.Metadata.{document}
use Rattle.segment.specs.Texts.{names}
use Rattle.std.specs.Borrow.{Bor, MutBor}
use denote.Triple.Both.{Both}
use Rattle.common.specs.Slices.{was, held, left}
use Rattle.common.specs.Lists.{paired, parts, joined}

-- in the order in which the writer takes them
pub record Lists : Type 0 where
  pub ids : List ℕ
  pub lengths : List ℕ
  pub text : List ℕ
  pub ends : List ℕ
  pub posting_counts : List ℕ
  pub posting_ids : List ℕ
  pub position_counts : List ℕ
  pub positions : List ℕ

-- the eight by name, as contracts have them
abbrev pub lists : (ids lengths text ends posting_counts posting_ids position_counts positions : List ℕ) → Lists
lists i l t e pc pi kc ps = record {
  ids = i;
  lengths = l;
  text = t;
  ends = e;
  posting_counts = pc;
  posting_ids = pi;
  position_counts = kc;
  positions = ps;
}

-- the eight as slices that a call was handed
abbrev pub given_lists : {Y : Type 0}
    → (ids lengths text ends posting_counts posting_ids position_counts positions : Both (Bor (List ℕ)) Y) → Lists
given_lists i l t e pc pi kc ps = lists (was i) (was l) (was t) (was e) (was pc) (was pi) (was kc) (was ps)

-- the eight as slices that a call was lent to write in, before it
abbrev pub held_lists : {Y : Type 0}
    → (ids lengths text ends posting_counts posting_ids position_counts positions : Both (MutBor (List ℕ)) Y) → Lists
held_lists i l t e pc pi kc ps = lists (held i) (held l) (held t) (held e) (held pc) (held pi) (held kc) (held ps)

-- and afterwards
abbrev pub left_lists : {X : Type 0}
    → (ids lengths text ends posting_counts posting_ids position_counts positions : Both X (MutBor (List ℕ))) → Lists
left_lists i l t e pc pi kc ps = lists (left i) (left l) (left t) (left e) (left pc) (left pi) (left kc) (left ps)

abbrev pub posting : ℕ → List ℕ → Posting
posting d ps = record { doc = d; positions = ps }

abbrev pub term : List ℕ → List Posting → Term
term n ps = record { name = n; postings = ps }

-- the postings of flat lists side by side
abbrev pub postings_in : (ids counts positions : List ℕ) → List Posting
postings_in ids counts positions = paired posting ids (parts counts positions)

abbrev pub postings_given : Lists → List Posting
postings_given l = postings_in l.posting_ids l.position_counts l.positions

unfoldable pub given : Lists → Given
given l = record {
  documents = paired document l.ids l.lengths;
  terms = paired term (names 0 l.ends l.text) (parts l.posting_counts (postings_given l));
}

abbrev pub ends_from : ℕ → List (List ℕ) → List ℕ
ends_from from [] = []
ends_from from (n ∷ ns) = (from + length n) ∷ ends_from (from + length n) ns

unfoldable pub laid_flat : Given → Lists
laid_flat g =
    let terms = g.terms in
    let postings = joined (map (λ t. t.postings) terms) in
    record {
      ids = map (λ d. d.id) g.documents;
      lengths = map (λ d. d.len) g.documents;
      text = joined (map (λ t. t.name) terms);
      ends = ends_from 0 (map (λ t. t.name) terms);
      posting_counts = map (λ t. length t.postings) terms;
      posting_ids = map (λ p. p.doc) postings;
      position_counts = map (λ p. length p.positions) postings;
      positions = joined (map (λ p. p.positions) postings);
    }
