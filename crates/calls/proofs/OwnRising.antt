-- A document's own positions rise, in every list that decodes.
-- Assumes nothing.
use Rattle.std.specs.Prelude.{None, Ok, Option, Some}
use mathlib.Core.Path.{◌≡◌, refl}
use mathlib.Core.Bool.{Bool, true, false, cond}
use mathlib.Core.List.{List, [], ◌∷◌}
use mathlib.Core.Logic.{inl, inr}
use Prim.Native.Nat.{ℕ}
use lib.Dec.{eqb}
use Rattle.common.specs.Elements.{◌∈◌, Rising}
use Rattle.segment.specs.Records.{Posting, Entry, Segment}
use Rattle.segment.specs.Directory.{entry_of}
use Rattle.segment.proofs.Binds.{ok_same}
use Rattle.segment.proofs.ReadRising.{decoded_rises}
use Rattle.calls.specs.Lookups.{found, postings_of, positions_of}

pub own_rises : (ps : List Posting) → ((p : Posting) → p ∈ ps → Rising p.positions) → (d : ℕ) → Rising (positions_of ps d)
unfolding positions_of
own_rises [] h d = tt
own_rises (p ∷ ps) h d = step (eqb p.doc d) (own_rises ps (λ q m. h q (inr m)) d)
  where
    step : (t : Bool) → Rising (positions_of ps d) → Rising (cond t p.positions (positions_of ps d))
    step true later = h p (inl refl)
    step false later = later

pub named_rises : (s : Segment) (name : List ℕ) {ps : List Posting} → postings_of s name ≡ Ok ps → (d : ℕ) → Rising (positions_of ps d)
unfolding postings_of
named_rises s name {ps} e d = step (entry_of s.entries name) e
  where
    step : (o : Option Entry) → found s.documents o ≡ Ok ps → Rising (positions_of ps d)
    step None is = rw (← ok_same is) (own_rises [] (λ p m. absurd m) d)
    step (Some entry) is = own_rises ps (decoded_rises s.documents entry is).1 d
