-- The ends of a text, one after the other.
-- Assumes nothing.
use mathlib.Core.Path.{◌≡◌}
use mathlib.Core.Bool.{Bool, false, ◌&&◌}
use mathlib.Core.List.{List}
use Prim.Native.Nat.{ℕ, ◌+◌, ◌≤◌, ◌<◌}
use lib.Dec.{leb, eqb}
use lib.ListN.{length, drop, get_or}
use borrow.Author.Tests.{le-leb, lt-leb}
use Rattle.common.proofs.Loops.{drop_step, drop_end}
use Rattle.segment.specs.Texts.{ends_fit}

module _ (ends : List ℕ) (i from n : ℕ) {whole : Bool} (inv : ends_fit from (drop i ends) n ≡ whole) where
  turn : i < length ends → leb from (get_or ends i 0) && ends_fit (get_or ends i 0) (drop (i + 1) ends) n ≡ whole
  unfolding ends_fit
  turn h = rw (drop_step ends i 0 h) at inv

  pub fit_next : i < length ends → from ≤ get_or ends i 0 → ends_fit (get_or ends i 0) (drop (i + 1) ends) n ≡ whole
  fit_next h k = rw (le-leb from (get_or ends i 0) k) at (turn h)

  pub fit_not : i < length ends → get_or ends i 0 < from → false ≡ whole
  fit_not h k = rw (lt-leb from (get_or ends i 0) k) at (turn h)

  pub fit_end : length ends ≤ i → eqb from n ≡ whole
  unfolding ends_fit
  fit_end h = rw (drop_end ends i h) at inv
