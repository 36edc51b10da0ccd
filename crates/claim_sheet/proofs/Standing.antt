-- Names rise, so a name is one sound's: its hits are those that stand in the lists handed in under its name.
-- Assumes nothing.
use mathlib.Core.Path.{◌≡◌, refl, sym, ap, ◌∙◌, subst}
use mathlib.Core.List.{List, [], ◌∷◌, map}
use mathlib.Core.Logic.{◌↔◌, inl, inr}
use Prim.Native.Nat.{ℕ}
use Rattle.common.specs.Elements.{◌∈◌}
use Rattle.common.proofs.Elements.{map_from}
use Rattle.common.proofs.Loops.{true_false}
use Rattle.segment.specs.Records.{Term}
use Rattle.segment.proofs.Strings.{same_is, precedes_apart}
use Rattle.calls.specs.Given.{Lists, given}
use Rattle.calls.specs.Acceptance.{NamesRising, ListsFine}
use Rattle.claim_joint.specs.Own.{Stands}
use Rattle.claim_joint.proofs.Once.{names_above, names_tail}
use Rattle.claim_sheet.specs.Words.{Hit}

abbrev named : List Term → List (List ℕ)
named ts = map (λ t. t.name) ts

-- a name that stands behind another is not the same
behind : {P : Type 0} (x : Term) (ts : List Term) → NamesRising (named (x ∷ ts)) → (t : Term) → t ∈ ts → x.name ≡ t.name → P
behind x ts r t m e =
    let far = precedes_apart x.name t.name (names_above x.name (named ts) r t.name (map_from (λ t. t.name) ts t m)) in
    true_false (sym ((same_is x.name t.name).1 e) ∙ far)

same_sound : (ts : List Term) → NamesRising (named ts) → (a b : Term) → a ∈ ts → b ∈ ts → a.name ≡ b.name → a ≡ b
same_sound [] r a b m k e = absurd m
same_sound (x ∷ ts) r a b (inl m) (inl k) e = m ∙ sym k
same_sound (x ∷ ts) r a b (inl m) (inr k) e = behind x ts r b k (ap (λ (t : Term). t.name) (sym m) ∙ e)
same_sound (x ∷ ts) r a b (inr m) (inl k) e = behind x ts r a m (ap (λ (t : Term). t.name) (sym k) ∙ sym e)
same_sound (x ∷ ts) r a b (inr m) (inr k) e = same_sound ts (names_tail x.name (named ts) r) a b m k e

pub hits_stand : (l : Lists) → ListsFine l → (id : ℕ) (t : Term) → t ∈ (given l).terms → (step : ℕ)
    → Hit t id step ↔ Stands l id t.name step
hits_stand l fine id t m step = (
  λ h. record {
    term = t;
    posting = h.posting;
    handed_in = m;
    of_name = refl;
    under = h.under;
    of = h.of;
    on = h.on;
  },
  λ s.
      let same = same_sound (given l).terms fine.names_rise s.term t s.handed_in m s.of_name in
      record {
        posting = s.posting;
        under = subst (λ (u : Term). s.posting ∈ u.postings) same s.under;
        of = s.of;
        on = s.on;
      },
)
