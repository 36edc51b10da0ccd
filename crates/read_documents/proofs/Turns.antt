-- The metadata's cursor in a loop over the documents: its document, then those of the advanced cursor; none if none remains.
-- Assumes nothing.
use mathlib.Core.Path.{◌≡◌, refl, sym, ap}
use mathlib.Core.List.{List, [], ◌∷◌}
use Prim.Native.Nat.{ℕ, zero, suc, ◌≤◌, ◌<◌}
use native.Mathlib.Omega.{arith}
use Rattle.segment.specs.Records.{Document}
use Rattle.segment.specs.Metadata.{document}
use Rattle.read_cursors.specs.Held.{rest_of}
use Rattle.read_cursors.specs.Steps.{documents_at}

module _ (s : List ℕ) where
  pub document_turn : (left at id len : ℕ) {more : List Document} → 0 < left → more ≡ rest_of (documents_at left at id len s)
      → documents_at left at id len s ≡ document id len ∷ more
  unfolding documents_at
  document_turn zero at id len h e = absurd (omega arith)
  document_turn (suc n) at id len h e = ap (λ ds. document id len ∷ ds) (sym e)

  pub no_document : (left at id len : ℕ) → left ≤ 0 → documents_at left at id len s ≡ []
  unfolding documents_at
  no_document zero at id len h = refl
  no_document (suc n) at id len h = absurd (omega arith)
