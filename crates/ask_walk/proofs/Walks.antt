-- The walk over the documents that every list holds: what a turn keeps of the documents found.
-- Assumes nothing.
use Prim.Native.Nat.{ℕ, ◌+◌, ◌≤◌, ◌<◌}
use mathlib.Core.Path.{◌≡◌, refl, sym, ap, ◌∙◌}
use mathlib.Core.Bool.{Bool, true, false}
use mathlib.Core.List.{List, [], ◌∷◌, map, map-id}
use native.Mathlib.Omega.{arith}
use lib.ListN.{length, length-set, get_or, set}
use lib.Seq.{sets}
use Rattle.read_cursors.specs.declared.postings.Postings.{Postings}
use Rattle.calls.specs.Lookups.{positions_of}
use Rattle.rules.specs.declared.rule.Rule.{Rule}
use Rattle.rules.specs.declared.rule.Rule.TheVariants.{Phrase}
use Rattle.rules.specs.Kinds.{meets}
use Rattle.rules.specs.Rules.{starts, not_empty, starts_count}
use Rattle.ask_names.specs.Steps.{Numbered}
use Rattle.ask_walk.specs.Steps.{DocumentMet, DocumentCounted, list_of, Lacked, LeaptTo, DocumentsFound, DocumentsCounted}
use Rattle.common.specs.Members.{kept}
use Rattle.common.proofs.Membership.{at_place}
use Rattle.rules.proofs.Asked.{needs_each}
use Rattle.calls.proofs.Posted.{docs, positions_some}
use Rattle.ask_walk.proofs.Leaps.{rising}
use Rattle.ask_walk.proofs.Stored.{Stored, stored_start, stored_end, stored_skip, stored_hit}

-- names and own positions that fit the lists
pub record Reading (bytes : List ℕ) (n : ℕ) (slot : List ℕ) (m : ℕ) (wanted : List ℕ) (heads : ℕ → Postings) : Type 0 where
  pub own : ℕ → List ℕ → List ℕ
  pub names : List (List ℕ)
  pub numbered : Numbered n slot m wanted names
  pub some : 0 < n
  pub stand : (d i : ℕ) → i < n → own d (get_or names i []) ≡ positions_of (list_of bytes heads (get_or slot i 0)) d

-- a document meets the rule
abbrev passes : {bytes : List ℕ} {n : ℕ} {slot : List ℕ} {m : ℕ} {wanted : List ℕ} {heads : ℕ → Postings} (a : Rule)
    (q : Reading bytes n slot m wanted heads) → ℕ → Bool
passes a q d = meets a (q.own d) q.names

module _ {bytes : List ℕ} {n : ℕ} {slot : List ℕ} {m : ℕ} {wanted : List ℕ} {heads : ℕ → Postings} (a : Rule)
    (q : Reading bytes n slot m wanted heads) where
  -- a document that meets the rule has positions in every list
  has : (j d : ℕ) → j < m → passes a q d ≡ true → 0 < length (positions_of (list_of bytes heads j) d)
  has j d h t =
      let u = q.numbered in
      let (i, l, e) = u.each j h in
      rw (← e, ← q.stand d i l)
      (needs_each (q.own d) q.names (get_or q.names i []) (at_place [] q.names i (omega (arith, u.taken))) a t)

  lacks : (d : ℕ) → Lacked bytes m heads d → passes a q d ≡ false
  lacks d l = by_test (passes a q d) refl
    where
      by_test : (t : Bool) → passes a q d ≡ t → t ≡ false
      by_test true t = absurd (omega (arith, has l.list d l.among t, ap length l.none))
      by_test false t = refl

-- for all names and own positions that fit the lists, the numbers stored and those to come are those of the documents found
pub record Answers (bytes : List ℕ) (a : Rule) (n : ℕ) (slot : List ℕ) (m : ℕ) (wanted : List ℕ) (heads : ℕ → Postings)
    (g : Reading bytes n slot m wanted heads → ℕ → ℕ) (before now : List ℕ) (count doc : ℕ) : Type 0 where
  pub long : length now ≡ length before
  pub few : count ≤ doc
  pub so_far : (q : Reading bytes n slot m wanted heads)
      → Stored (λ d. meets a (q.own d) q.names) (g q) (docs (list_of bytes heads 0)) before now count doc

module _ {bytes : List ℕ} {a : Rule} {n : ℕ} {slot : List ℕ} {m : ℕ} {wanted : List ℕ} {heads : ℕ → Postings}
    {g : Reading bytes n slot m wanted heads → ℕ → ℕ} where
  pub answers_start : {before : List ℕ} → Answers bytes a n slot m wanted heads g before before 0 0
  answers_start {before} = record {
    long = refl;
    few = omega arith;
    so_far = λ q. stored_start (passes a q) (g q) _ before;
  }

  module _ {before now : List ℕ} {count doc : ℕ} (s : Answers bytes a n slot m wanted heads g before now count doc) where
    pub answers_end : ((e : ℕ) → doc ≤ e → Lacked bytes m heads e) → (q : Reading bytes n slot m wanted heads)
        → let found = kept (λ d. meets a (q.own d) q.names) (docs (list_of bytes heads 0)) in
        (count ≡ length found) × (now ≡ sets before 0 (map (g q) found))
    answers_end none q = stored_end (passes a q) (g q) _ (s.so_far q) (λ e h. lacks a q e (none e h))

    -- the next document that all lists hold
    module _ {new : ℕ → Postings} {d : ℕ} (l : LeaptTo bytes m doc heads new d) where
      come : (q : Reading bytes n slot m wanted heads) → Stored (passes a q) (g q) (docs (list_of bytes heads 0)) before now count d
      come q = stored_skip (passes a q) (g q) _ (s.so_far q) l.reached (λ e h u. lacks a q e (l.skipped e h u))

      -- what the code said of the document
      pub met_told : {t : Bool} → DocumentMet bytes a n slot m wanted new t → (q : Reading bytes n slot m wanted heads)
          → meets a (q.own d) q.names ≡ t
      met_told met q =
          sym (met (q.own d) q.names q.numbered q.some
          (λ i h. q.stand d i h ∙ l.here (get_or slot i 0) (q.numbered.below i h)))

      pub answers_hit : {after : List ℕ} {more value : ℕ} → 0 < m
          → ((q : Reading bytes n slot m wanted heads) → meets a (q.own d) q.names ≡ true)
          → ((q : Reading bytes n slot m wanted heads) → g q d ≡ value) → after ≡ set now count value → more ≡ count + 1
          → Answers bytes a n slot m wanted heads g before after more (d + 1)
      answers_hit any hit is put e = record {
        long = ap length put ∙ simp length-set s.long;
        few = omega (arith, s.few, l.reached);
        so_far = λ q.
            rw e
            (stored_hit (passes a q) (g q) _ (come q) (rising bytes (heads 0))
            (positions_some (list_of bytes heads 0) d (has a q 0 d any (hit q))) (hit q) (rw (is q) put));
      }

      pub answers_miss : {after : List ℕ} {more : ℕ} → ((q : Reading bytes n slot m wanted heads) → meets a (q.own d) q.names ≡ false)
          → after ≡ now → more ≡ count → Answers bytes a n slot m wanted heads g before after more (d + 1)
      answers_miss miss same e = record {
        long = ap length same ∙ s.long;
        few = omega (arith, s.few, l.reached);
        so_far = λ q.
            rw (same, e)
            (stored_skip (passes a q) (g q) _ (come q) (omega arith)
            (λ x h u. let z : x ≡ d = omega arith in rw z (miss q)));
      }

-- the ids alone
pub ids_found : {bytes : List ℕ} {a : Rule} {n : ℕ} {slot : List ℕ} {m : ℕ} {wanted : List ℕ} {heads : ℕ → Postings}
    {before now : List ℕ} {count doc : ℕ}
    → Answers bytes a n slot m wanted heads (λ q d. d) before now count doc → ((e : ℕ) → doc ≤ e → Lacked bytes m heads e)
    → DocumentsFound bytes a n slot m wanted heads before count now
ids_found {bytes} {a} {n} {slot} {m} {wanted} {heads} s none own ns u some stand =
    let q : Reading bytes n slot m wanted heads = record { own = own; names = ns; numbered = u; some = some; stand = stand } in
    let (e, f) = answers_end s none q in
    record { count = e; left = rw (map-id (kept (λ d. meets a (own d) ns) (docs (list_of bytes heads 0)))) at f }

-- ---- the ids, and beside each the number of the phrase's starts

some_left : (xs : List ℕ) → 0 < length xs → not_empty xs ≡ true
some_left [] h = absurd (omega arith)
some_left (x ∷ xs) h = refl

none_left : (xs : List ℕ) → length xs ≡ 0 → not_empty xs ≡ false
none_left [] e = refl
none_left (x ∷ xs) e = absurd (omega (arith, e))

-- how often the phrase of a reading fits in a document
abbrev often : {bytes : List ℕ} {n : ℕ} {slot : List ℕ} {m : ℕ} {wanted : List ℕ} {heads : ℕ → Postings}
    (q : Reading bytes n slot m wanted heads) → ℕ → ℕ
often q d = starts_count (q.own d) q.names

pub record Tallies (bytes : List ℕ) (n : ℕ) (slot : List ℕ) (m : ℕ) (heads : ℕ → Postings) (ids counts ids' counts' : List ℕ)
    (count doc : ℕ) : Type 0 where
  pub in_ids : (wanted : List ℕ) → Answers bytes Phrase n slot m wanted heads (λ q d. d) ids ids' count doc
  pub in_counts : (wanted : List ℕ)
      → Answers bytes Phrase n slot m wanted heads (λ q d. starts_count (q.own d) q.names) counts counts' count doc

pub tallies_start : {bytes : List ℕ} {n : ℕ} {slot : List ℕ} {m : ℕ} {heads : ℕ → Postings} {ids counts : List ℕ}
    → Tallies bytes n slot m heads ids counts ids counts 0 0
tallies_start = record { in_ids = λ wanted. answers_start; in_counts = λ wanted. answers_start }

module _ {bytes : List ℕ} {n : ℕ} {slot : List ℕ} {m : ℕ} {heads : ℕ → Postings} {ids counts ids' counts' : List ℕ} {count doc : ℕ}
    (s : Tallies bytes n slot m heads ids counts ids' counts' count doc) where
  pub tallies_end : 0 < n → ((e : ℕ) → doc ≤ e → Lacked bytes m heads e)
      → DocumentsCounted bytes n slot m heads ids counts count ids' counts'
  tallies_end some none wanted own ns u stand =
      let q : Reading bytes n slot m wanted heads = record { own = own; names = ns; numbered = u; some = some; stand = stand } in
      record {
        in_ids = ids_found (s.in_ids wanted) none own ns u some stand;
        in_counts = (answers_end (s.in_counts wanted) none q).1;
      }

  -- the next document that all lists hold, and what the code said of it
  module _ {new : ℕ → Postings} {d r : ℕ} (l : LeaptTo bytes m doc heads new d) (told : DocumentCounted bytes n slot new r) where
    is : {wanted : List ℕ} (q : Reading bytes n slot m wanted heads) → often q d ≡ r
    is q =
        sym (told (q.own d) q.names q.numbered.taken
        (λ i h. q.stand d i h ∙ l.here (get_or slot i 0) (q.numbered.below i h)))

    pub tallies_hit : {ids'' counts'' : List ℕ} {more : ℕ} → 0 < m → 0 < r → ids'' ≡ set ids' count d → counts'' ≡ set counts' count r
        → more ≡ count + 1 → Tallies bytes n slot m heads ids counts ids'' counts'' more (d + 1)
    tallies_hit any fits put_id put_count e = record {
      in_ids = λ wanted. answers_hit (s.in_ids wanted) l any hit (λ q. refl) put_id e;
      in_counts = λ wanted. answers_hit (s.in_counts wanted) l any hit is put_count e;
    }
      where
        hit : {wanted : List ℕ} (q : Reading bytes n slot m wanted heads) → meets Phrase (q.own d) q.names ≡ true
        hit q = some_left (starts (q.own d) q.names) (omega (arith, is q))

    pub tallies_miss : {ids'' counts'' : List ℕ} {more : ℕ} → r ≡ 0 → ids'' ≡ ids' → counts'' ≡ counts' → more ≡ count
        → Tallies bytes n slot m heads ids counts ids'' counts'' more (d + 1)
    tallies_miss none same_ids same_counts e = record {
      in_ids = λ wanted. answers_miss (s.in_ids wanted) l miss same_ids e;
      in_counts = λ wanted. answers_miss (s.in_counts wanted) l miss same_counts e;
    }
      where
        miss : {wanted : List ℕ} (q : Reading bytes n slot m wanted heads) → meets Phrase (q.own d) q.names ≡ false
        miss q = none_left (starts (q.own d) q.names) (is q ∙ none)
