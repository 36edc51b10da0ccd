-- The call that lists a term's documents, from what the decoding of its list answered.
-- Assumes nothing.
use Rattle.std.specs.Prelude.{Err, None, Ok}
use mathlib.Core.Path.{◌≡◌, sym, ap, ◌∙◌}
use mathlib.Core.List.{List, [], map, map-map}
use Prim.Native.Nat.{ℕ, ◌≤◌, ◌<◌}
use native.Mathlib.Omega.{arith}
use lib.ListN.{length, drop, length-map}
use borrow.Author.Tests.{le-leb, lt-leb}
use Rattle.segment.specs.declared.refusal.Refusal.{Refusal}
use Rattle.segment.specs.Refusals.{no_room}
use Rattle.segment.specs.Records.{Posting}
use Rattle.read_cursors.specs.Held.{held_postings, posting_of}
use Rattle.calls.specs.Replies.{fronted, docs_of}
use Rattle.calls.specs.Reads.{term_list, docs_with_term}
use Rattle.read_terms.specs.Promise.{DocsAnswered}
use Rattle.read_terms.specs.Steps.{ListIsDecoded}

-- ---- postings by offset and by content

module _ {bytes name : List ℕ} {start df total : ℕ} (d : ListIsDecoded bytes name start df total) where
  pub spots_many : length (held_postings df None (drop start bytes)) ≡ df
  spots_many = sym (length-map (held_postings df None (drop start bytes)) posting_of) ∙ ap length d.walked ∙ d.count

  pub docs_are : map (λ s. s.doc) (held_postings df None (drop start bytes)) ≡ docs_of d.postings
  docs_are = sym (map-map (λ (p : Posting). p.doc) posting_of (held_postings df None (drop start bytes))) ∙ ap docs_of d.walked

-- ---- documents

module _ (bytes name ids : List ℕ) where
  docs_refused : {x : Refusal} → docs_with_term bytes name (length ids) ≡ Err x → DocsAnswered bytes name ids (Err x) ids
  docs_refused e = record { reply = rw e; ids_left = rw e }

  pub docs_stopped : {x : Refusal} → term_list bytes name ≡ Err x → DocsAnswered bytes name ids (Err x) ids
  unfolding docs_with_term
  docs_stopped e = docs_refused (rw e)

  pub docs_none : term_list bytes name ≡ Ok [] → DocsAnswered bytes name ids (Ok 0) ids
  unfolding docs_with_term
  docs_none e =
      let told : docs_with_term bytes name (length ids) ≡ Ok [] = rw (e, le-leb 0 (length ids) (omega arith)) in
      record { reply = rw told; ids_left = rw told }

  module _ {start df total n : ℕ} (d : ListIsDecoded bytes name start df total) (is : n ≡ df) where
    pub docs_no_room : length ids < n → DocsAnswered bytes name ids (Err (no_room 1 n)) ids
    unfolding docs_with_term
    docs_no_room h = docs_refused (rw (d.decoded, d.count, ← is, lt-leb n (length ids) h))

    docs_told : n ≤ length ids → docs_with_term bytes name (length ids) ≡ Ok (docs_of d.postings)
    unfolding docs_with_term
    docs_told h = rw (d.decoded, d.count, ← is, le-leb n (length ids) h)

    pub docs_filled : {ids' : List ℕ} → n ≤ length ids → ids' ≡ fronted (map (λ s. s.doc) (held_postings df None (drop start bytes))) ids
        → DocsAnswered bytes name ids (Ok n) ids'
    docs_filled h e = record {
      reply = rw (docs_told h) (ap Ok (is ∙ sym (length-map d.postings (λ p. p.doc) ∙ d.count)));
      ids_left = rw (docs_told h) (e ∙ ap (λ l. fronted l ids) (docs_are d));
    }
