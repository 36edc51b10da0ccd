-- A layout that is a segment's own fits.
-- Assumes nothing.
use Prim.Native.Nat.{ℕ, ◌-◌, ◌≤◌, ◌<◌}
use mathlib.Core.List.{List}
use mathlib.Core.Logic.{⊎_elim}
use native.Mathlib.Omega.{arith}
use lib.ListN.{length-take, length-drop}
use Rattle.common.proofs.Loops.{lt_or_ge}
use Rattle.segment.specs.Records.{Segment}
use Rattle.read_open.specs.declared.header.Layout.{Layout}
use Rattle.read_open.specs.Opened.{IsOpen, Fits}

pub own_fits : {bytes : List ℕ} {l : Layout} {s : Segment} → IsOpen bytes l s → Fits bytes l
own_fits {l = l} is = record {
  ordered = is.ordered;
  entries =
      ⊎_elim
      (λ (h : 0 < l.terms).
      let e = simp (length-take, length-drop) at (is.sorted.inside (l.terms - 1) (omega arith)).entry in
      omega (arith, is.ordered.directory))
      (λ (h : l.terms ≤ 0). omega (arith, is.ordered.directory))
      (lt_or_ge 0 l.terms);
}
