-- Decoding every list of the directory refuses with the first, in its order, that is refused.
-- Assumes nothing.
use Rattle.std.specs.Prelude.{Err, Ok}
use mathlib.Core.Path.{◌≡◌, refl, ap, ◌∙◌}
use mathlib.Core.List.{List, [], ◌∷◌, ◌++◌}
use mathlib.Core.Logic.{⊎_elim, inl, inr}
use Rattle.common.specs.Elements.{◌∈◌}
use Rattle.common.proofs.Elements.{each}
use Rattle.segment.specs.declared.refusal.Refusal.{Refusal}
use Rattle.segment.specs.Records.{Document, Posting, Entry}
use Rattle.segment.specs.Postings.{decode}
use Rattle.segment.specs.Contents.{decode_all}
use Rattle.segment.proofs.Refused.{ok_refuse, refused_by}
use Rattle.claim_sheet.specs.Claims.{FirstRefused}

abbrev Fine : List Document → Entry → Type 0
Fine documents e = (ps : List Posting) × (decode documents e ≡ Ok ps)

module _ (documents : List Document) {x : Refusal} where
  one_later : (e : Entry) (es : List Entry) → Fine documents e → FirstRefused documents es x → FirstRefused documents (e ∷ es) x
  one_later e es d w = record {
    before = e ∷ w.before;
    entry = w.entry;
    after = w.after;
    are = ap (λ (l : List Entry). e ∷ l) w.are;
    fine = each (Fine documents) e w.before d w.fine;
    refused = w.refused;
  }

  pub first_gives : (es : List Entry) → decode_all documents es ≡ Err x → FirstRefused documents es x
  unfolding decode_all
  first_gives [] r = ok_refuse r
  first_gives (e ∷ es) r = ⊎_elim
      (λ d. record { before = []; entry = e; after = es; are = refl; fine = λ y m. absurd m; refused = d })
      (λ (ps, d, f).
      ⊎_elim
      (λ later. one_later e es (ps, d) (first_gives es later))
      (λ (ts, all, g). ok_refuse g)
      (refused_by (decode_all documents es) _ f))
      (refused_by (decode documents e) _ r)

  refused_at : (before : List Entry) (entry : Entry) (after : List Entry) → ((e : Entry) → e ∈ before → Fine documents e)
      → decode documents entry ≡ Err x → decode_all documents (before ++ entry ∷ after) ≡ Err x
  unfolding decode_all
  refused_at [] entry after fine r = rw r
  refused_at (e ∷ before) entry after fine r =
      rw ((fine e (inl refl)).1, refused_at before entry after (λ y m. fine y (inr m)) r)

  pub first_from : (es : List Entry) → FirstRefused documents es x → decode_all documents es ≡ Err x
  first_from es w = ap (decode_all documents) w.are ∙ refused_at w.before w.entry w.after w.fine w.refused
