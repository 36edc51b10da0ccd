-- The positions of one document in a list that was decoded, from a cursor that was sought to it.
-- Assumes nothing.
use Rattle.std.specs.Prelude.{None}
use mathlib.Core.Path.{◌≡◌, refl, sym, ap, ◌∙◌}
use mathlib.Core.Bool.{Bool, true, false, cond}
use mathlib.Core.List.{List, [], ◌∷◌, map}
use mathlib.Core.Logic.{⊎_elim}
use Prim.Native.Nat.{ℕ, zero, suc, ◌≤◌, ◌<◌}
use native.Mathlib.Omega.{arith}
use lib.Dec.{ltb}
use lib.ListN.{length, drop}
use borrow.Author.Tests.{lt-ltb, le-ltb, eq-eqb, ne_eqb}
use Rattle.common.proofs.Loops.{lt_or_ge}
use Rattle.segment.specs.Records.{Posting}
use Rattle.read_cursors.specs.Held.{rest_of, seek_in, PostingAt, held_positions, posting_of}
use Rattle.read_cursors.specs.declared.postings.Postings.{Postings}
use Rattle.calls.specs.Lookups.{positions_of}
use Rattle.read_cursors.specs.Steps.{postings_at, postings_from, SoughtPosting}
use Rattle.read_cursors.proofs.Rising.{Rises, from_rise_postings}

-- postings below the document that is asked for have no part in its positions
skipped_same : (id : ℕ) (ss : List PostingAt)
    → positions_of (map posting_of (seek_in (λ (s : PostingAt). s.doc) id ss)) id ≡ positions_of (map posting_of ss) id
unfolding positions_of
skipped_same id [] = refl
skipped_same id (s ∷ ss) =
    ⊎_elim
    (λ (h : s.doc < id). rw (lt-ltb s.doc id h, ne_eqb s.doc id (λ e. omega arith)) (skipped_same id ss))
    (λ (h : id ≤ s.doc). rw (le-ltb s.doc id h))
    (lt_or_ge s.doc id)

-- nor have those above it
above_none : (id low : ℕ) (ss : List PostingAt) → Rises (λ (s : PostingAt). s.doc) low ss → id < low
    → positions_of (map posting_of ss) id ≡ []
unfolding positions_of
above_none id low [] r h = refl
above_none id low (s ∷ ss) r h = rw (ne_eqb s.doc id (λ e. omega arith)) (above_none id (suc s.doc) ss r.1 (omega arith))

-- counts are the numbers of positions, also from a posting on
abbrev Counts : List PostingAt → Type 0
Counts ss = map (λ s. s.count) ss ≡ map (λ p. length p.positions) (map posting_of ss)

counts_sought : (id : ℕ) (ss : List PostingAt) → Counts ss → Counts (seek_in (λ (s : PostingAt). s.doc) id ss)
counts_sought id [] e = e
counts_sought id (s ∷ ss) e = go (ltb s.doc id) (counts_sought id ss (ap rest_of e))
  where
    go : (t : Bool) → Counts (seek_in (λ (s : PostingAt). s.doc) id ss)
        → Counts (cond t (seek_in (λ (s : PostingAt). s.doc) id ss) (s ∷ ss))
    go true more = more
    go false more = e

-- the posting at a cursor
module _ (s : List ℕ) (at count doc : ℕ) where
  at_found : (left : ℕ) → 0 < left
      → positions_of (map posting_of (postings_at left at count doc s)) doc ≡ held_positions count None (drop at s)
  unfolding postings_at positions_of
  at_found zero h = absurd (omega arith)
  at_found (suc n) h = rw (eq-eqb doc doc refl)

  at_other : (left id : ℕ) → (0 < left → id < doc) → positions_of (map posting_of (postings_at left at count doc s)) id ≡ []
  unfolding postings_at positions_of
  at_other zero id h = refl
  at_other (suc n) id h =
      above_none id doc (postings_at (suc n) at count doc s) (from_rise_postings s (suc n) at count doc) (h (omega arith))

  at_count : (left : ℕ) → 0 < left → Counts (postings_at left at count doc s) → count ≡ length (held_positions count None (drop at s))
  unfolding postings_at
  at_count zero h e = absurd (omega arith)
  at_count (suc n) h e = cc

-- the postings of a list that was decoded, as a cursor walks them, and the cursor that was sought in it
module _ (bytes : List ℕ) (id : ℕ) {ss : List PostingAt} {ps : List Posting} (walked : map posting_of ss ≡ ps)
    (counts : map (λ s. s.count) ss ≡ map (λ p. length p.positions) ps) (first here : Postings)
    (starts : postings_from bytes first ≡ ss) (sought : SoughtPosting bytes id first here) where
  here_says : positions_of ps id ≡ positions_of (map posting_of (postings_from bytes here)) id
  here_says =
      ap (λ qs. positions_of qs id) (sym walked ∙ ap (map posting_of) (sym starts))
      ∙ sym (skipped_same id (postings_from bytes first))
      ∙ ap (λ ss. positions_of (map posting_of ss) id) (sym sought.holds)

  counts_here : Counts (postings_from bytes here)
  counts_here =
      rw sought.holds
      (counts_sought id (postings_from bytes first)
      (rw starts (counts ∙ ap (map (λ (p : Posting). length p.positions)) (sym walked))))

  pub sought_none : (0 < here.remaining → here.doc.0 ≡ id → ⊥) → positions_of ps id ≡ []
  sought_none h =
      here_says
      ∙ at_other bytes here.at here.count here.doc.0 here.remaining id (λ k. omega (arith, sought.reached k, h k))

  module _ (h : 0 < here.remaining) where
    pub sought_these : here.doc.0 ≡ id → positions_of ps id ≡ held_positions here.count None (drop here.at bytes)
    sought_these e = here_says ∙ rw (← e) (at_found bytes here.at here.count here.doc.0 here.remaining h)

    pub sought_many : here.count ≡ length (held_positions here.count None (drop here.at bytes))
    sought_many = at_count bytes here.at here.count here.doc.0 here.remaining h counts_here
