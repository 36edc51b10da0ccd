-- A cursor in a loop over the positions of a posting, and a posting's positions stored while a loop goes over the postings.
-- Assumes nothing.
use Rattle.std.specs.Prelude.{None}
use mathlib.Core.Path.{◌≡◌, refl, sym, ap, ◌∙◌}
use mathlib.Core.List.{List, [], ◌∷◌, ◌++◌, map}
use Prim.Native.Nat.{ℕ, zero, suc, ◌+◌, ◌≤◌, ◌<◌}
use native.Mathlib.Omega.{arith}
use lib.ListN.{length, drop}
use Rattle.read_cursors.specs.Held.{rest_of, PostingAt, held_positions}
use Rattle.read_cursors.specs.Steps.{postings_at, positions_at}
use Rattle.common.specs.Stores.{Stored}
use Rattle.calls.proofs.Filling.{ToStore, part_room, part_next}
use Rattle.read_terms.proofs.Turns.{posting_turn}
use Rattle.read_positions.specs.Steps.{all_positions}

abbrev pub spot_counts : List PostingAt → List ℕ
spot_counts ss = map (λ s. s.count) ss

module _ (s : List ℕ) where
  -- a posting's positions stored, in front of those of the postings after it
  module _ (left at count doc : ℕ) {all entry out part : List ℕ} {from next : ℕ}
      (t : ToStore all from entry (all_positions (postings_at left at count doc s)) next out)
      (h : 0 < left) (is : part ≡ held_positions count None (drop at s)) where
    part_of : {more : List PostingAt} → more ≡ rest_of (postings_at left at count doc s)
        → all_positions (postings_at left at count doc s) ≡ part ++ all_positions more
    part_of {more} e = ap all_positions (posting_turn s left at count doc h e) ∙ ap (λ l. l ++ all_positions more) (sym is)

    pub positions_room : next + length part ≤ length out
    positions_room = part_room t part _ (part_of refl)

    pub positions_next : {more : List PostingAt} {out' : List ℕ} {next' : ℕ} → more ≡ rest_of (postings_at left at count doc s)
        → Stored part next out next' out'
        → ToStore all from entry (all_positions more) next' out'
    positions_next e stored = part_next t part _ (part_of e) stored

  pub position_turn : (left at pos : ℕ) {more : List ℕ} → 0 < left → more ≡ rest_of (positions_at left at pos s)
      → positions_at left at pos s ≡ pos ∷ more
  unfolding positions_at
  position_turn zero at pos h e = absurd (omega arith)
  position_turn (suc n) at pos h e = ap (λ ps. pos ∷ ps) (sym e)

  pub no_position : (left at pos : ℕ) → left ≤ 0 → positions_at left at pos s ≡ []
  unfolding positions_at
  no_position zero at pos h = refl
  no_position (suc n) at pos h = absurd (omega arith)
