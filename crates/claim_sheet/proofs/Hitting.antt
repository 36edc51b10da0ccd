-- Where a list's documents rise, the bar's positions are its hits.
-- Assumes nothing.
use mathlib.Core.Path.{◌≡◌, refl, ap, ◌∙◌, subst, sym}
use mathlib.Core.Bool.{Bool, true, false, cond}
use mathlib.Core.List.{List, [], ◌∷◌}
use mathlib.Core.Logic.{◌↔◌, inl, inr}
use Prim.Native.Nat.{ℕ, ◌≤◌}
use lib.Dec.{eqb}
use lib.ListN.{length}
use borrow.Author.Tests.{eqb-true}
use Rattle.common.specs.Elements.{◌∈◌, Rising}
use Rattle.segment.specs.Records.{Posting, Term}
use Rattle.segment.proofs.Within.{AllBelow}
use Rattle.calls.specs.Lookups.{positions_of}
use Rattle.calls.proofs.Posted.{docs, positions_here}
use Rattle.claim_sheet.specs.Words.{Hit, Hits}

abbrev pub hits_of : Term → ℕ → List ℕ
hits_of t id = positions_of t.postings id

-- what is known of a decoded sound: documents rise, and the bar's positions rise below its length, so that they are no more
pub record Fits (id len : ℕ) (t : Term) : Type 0 where
  pub documents_rise : Rising (docs t.postings)
  pub rise : Rising (hits_of t id)
  pub below : AllBelow len (hits_of t id)
  pub few : length (hits_of t id) ≤ len

-- the posting that has a position
posted : (ps : List Posting) (id s : ℕ) → s ∈ positions_of ps id → (p : Posting) × (p ∈ ps) × (p.doc ≡ id) × (s ∈ p.positions)
unfolding positions_of
posted [] id s m = absurd m
posted (p ∷ ps) id s m = step (eqb p.doc id) refl m (posted ps id s)
  where
    step : (t : Bool) → eqb p.doc id ≡ t → s ∈ cond t p.positions (positions_of ps id)
        → (s ∈ positions_of ps id → (q : Posting) × (q ∈ ps) × (q.doc ≡ id) × (s ∈ q.positions))
        → (q : Posting) × (q ∈ (p ∷ ps)) × (q.doc ≡ id) × (s ∈ q.positions)
    step true e m later = (p, inl refl, eqb-true p.doc id e, m)
    step false e m later = let (q, k, of, on) = later m in (q, inr k, of, on)

pub hits_are : (id : ℕ) (t : Term) → Rising (docs t.postings) → (s : ℕ) → (s ∈ hits_of t id) ↔ Hit t id s
hits_are id t r s = (
  λ m.
      let (p, under, of, on) = posted t.postings id s m in
      record { posting = p; under = under; of = of; on = on },
  λ h.
      let same = ap (positions_of t.postings) (sym h.of) ∙ positions_here t.postings r h.posting h.under in
      subst (λ (xs : List ℕ). s ∈ xs) (sym same) h.on,
)

pub are_hits : (id len : ℕ) (t : Term) → Fits id len t → Hits t id (length (hits_of t id))
are_hits id len t f = record { steps = hits_of t id; are = hits_are id t f.documents_rise; once = f.rise; counted = refl }
