-- The documents of postings, and a document's own positions among them.
-- Assumes nothing.
use mathlib.Core.Path.{◌≡◌, refl, sym}
use mathlib.Core.Bool.{Bool, true, false, cond}
use mathlib.Core.List.{List, [], ◌∷◌, map}
use mathlib.Core.Logic.{inl, inr}
use Prim.Native.Nat.{ℕ, ◌<◌}
use native.Mathlib.Nat.{not-suc-le-zero}
use native.Mathlib.Omega.{arith}
use lib.Dec.{eqb}
use lib.ListN.{length}
use borrow.Author.Tests.{eqb-true, eq-eqb, ne_eqb}
use Rattle.segment.specs.Records.{Document, Posting}
use Rattle.calls.specs.Lookups.{positions_of}
use Rattle.common.specs.Elements.{◌∈◌, Rising}
use Rattle.common.proofs.Elements.{rising_tail, rising_above, map_from}

abbrev pub docs : List Posting → List ℕ
docs ps = map (λ p. p.doc) ps

abbrev pub ids : List Document → List ℕ
ids ds = map (λ d. d.id) ds

-- a document with positions of its own is one of the postings'
pub positions_some : (ps : List Posting) (d : ℕ) → 0 < length (positions_of ps d) → d ∈ docs ps
unfolding positions_of
positions_some [] d h = absurd (not-suc-le-zero h)
positions_some (p ∷ ps) d h = step (eqb p.doc d) refl h (positions_some ps d)
  where
    step : (t : Bool) → eqb p.doc d ≡ t → 0 < length (cond t p.positions (positions_of ps d))
        → (0 < length (positions_of ps d) → d ∈ docs ps) → d ∈ docs (p ∷ ps)
    step true e h later = inl (sym (eqb-true p.doc d e))
    step false e h later = inr (later h)

-- each posting's positions are its document's own
pub positions_here : (ps : List Posting) → Rising (docs ps) → (p : Posting) → p ∈ ps → positions_of ps p.doc ≡ p.positions
unfolding positions_of
positions_here [] r p m = absurd m
positions_here (q ∷ ps) r p (inl e) = rw (e, eq-eqb q.doc q.doc refl)
positions_here (q ∷ ps) r p (inr m) =
    let up = rising_above q.doc (docs ps) r p.doc (map_from (λ p. p.doc) ps p m) in
    rw (ne_eqb q.doc p.doc (λ e. omega arith)) (positions_here ps (rising_tail q.doc (docs ps) r) p m)
