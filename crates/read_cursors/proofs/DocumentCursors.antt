-- A cursor over the documents that the bytes hold: what is ahead of it, entered and advanced.
-- Assumes nothing.
use Rattle.std.specs.Prelude.{Err, None, Ok, Option, Some}
use mathlib.Core.Path.{◌≡◌, refl, sym, ap, ◌∙◌}
use mathlib.Core.List.{List, []}
use Prim.Native.Nat.{ℕ, zero, suc, ◌-◌}
use native.Mathlib.Omega.{arith}
use lib.ListN.{drop}
use Rattle.segment.specs.declared.refusal.Refusal.{Refusal}
use Rattle.segment.specs.Results.{Answer}
use Rattle.segment.specs.Records.{Document, Read}
use Rattle.segment.specs.Metadata.{document, read_document}
use Rattle.read_cursors.specs.Held.{rest_of, on_document, held_documents}
use Rattle.read_cursors.specs.Steps.{documents_at}
use Rattle.segment.proofs.Binds.{carried}
use Rattle.read_cursors.proofs.DocumentReads.{any_place, elsewhere}
use Rattle.read_cursors.proofs.Seeks.{Ahead, none, one}

none_carried : (next : ℕ → List ℕ → List Document) (r : Answer (Read Document)) → carried r ≡ None → on_document next r ≡ []
none_carried next (Ok d) e = let z : ◌≡◌ {A = ℕ} 0 1 = cc in absurd (omega arith)
none_carried next (Err x) e = refl

module _ (s : List ℕ) where
  pub documents_ahead : (remaining at id len : ℕ) → Ahead (λ (d : Document). d.id) id remaining (documents_at remaining at id len s)
  unfolding documents_at
  documents_ahead zero at id len = none
  documents_ahead (suc n) at id len = one refl

  none_left : (at id len : ℕ) → documents_at 0 at id len s ≡ []
  unfolding documents_at
  none_left at id len = refl

  -- at the first of those from an offset on
  module _ (at : ℕ) (previous : Option ℕ) where
    pub enter_none : (remaining a i l : ℕ) → remaining ≡ 0 → documents_at 0 a i l s ≡ held_documents remaining previous (drop at s)
    unfolding held_documents
    enter_none remaining a i l e = rw e (none_left a i l)

    module _ (index : ℕ) where
      pub enter_refused : {x : Refusal} (remaining a i l : ℕ) → read_document index previous (drop at s) ≡ Err x
          → documents_at 0 a i l s ≡ held_documents remaining previous (drop at s)
      unfolding held_documents
      enter_refused zero a i l e = none_left a i l
      enter_refused (suc k) a i l e =
          none_left a i l ∙ sym
          (none_carried _ (read_document 0 previous (drop at s)) (any_place 0 index previous (drop at s) ∙ ap carried e))

      pub enter_next : (remaining id len next : ℕ)
          → read_document index previous (drop at s) ≡ Ok (record { got = document id len; rest = drop next s })
          → documents_at remaining next id len s ≡ held_documents remaining previous (drop at s)
      unfolding documents_at held_documents
      enter_next zero id len next e = refl
      enter_next (suc k) id len next e = rw (elsewhere index 0 previous (drop at s) e)

  pub documents_past : (remaining at id len : ℕ) → (remaining ≡ 0 → ⊥)
      → held_documents (remaining - 1) (Some id) (drop at s) ≡ rest_of (documents_at remaining at id len s)
  unfolding documents_at
  documents_past zero at id len h = absurd (h refl)
  documents_past (suc k) at id len h = let e : suc k - 1 ≡ k = omega arith in rw e
