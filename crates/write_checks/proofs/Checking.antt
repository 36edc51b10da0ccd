-- The checks of documents and of positions one at a time, as the code takes them.
-- Assumes nothing.
use Rattle.std.specs.Prelude.{Err, None, Ok, Option, Some}
use Rattle.segment.specs.Results.{Answer}
use mathlib.Core.Path.{◌≡◌, refl}
use mathlib.Core.List.{List, [], ◌∷◌}
use Prim.Native.Nat.{ℕ, ◌+◌, ◌≤◌, ◌<◌}
use native.Mathlib.Omega.{arith}
use lib.ListN.{length, drop, get_or}
use borrow.Author.Tests.{lt-ltb, le-ltb}
use Rattle.common.proofs.Loops.{drop_step, drop_end}
use Rattle.segment.specs.declared.refusal.Refusal.{Refusal}
use Rattle.segment.specs.Refusals.{invalid_layout, document_lengths_not_increasing}
use Rattle.segment.specs.Metadata.{document}
use Rattle.segment.specs.Steps.{checked}
use Rattle.common.specs.Lists.{paired}
use Rattle.calls.specs.Checks.{check_documents, position_checks, check_positions}
use Rattle.segment.proofs.Inversions.{stops}

-- ---- documents, from the second on

pub documents_start : (ids lengths : List ℕ) → length ids ≡ length lengths
    → checked (check_documents (Some (get_or ids 0 0)) (paired document (drop 1 ids) (drop 1 lengths)))
    ≡ checked (check_documents None (paired document ids lengths))
unfolding check_documents
documents_start [] ys e = refl
documents_start (x ∷ xs) [] e = absurd (omega arith)
documents_start (x ∷ xs) (y ∷ ys) e = refl

module _ (ids lengths : List ℕ) (e : length ids ≡ length lengths) (i previous : ℕ) {whole : (Answer (Unit {0}))}
    (inv : checked (check_documents (Some previous) (paired document (drop i ids) (drop i lengths))) ≡ whole) where
  pub documents_next : (j : ℕ) → j ≡ i → i < length ids → previous < get_or ids i 0
      → checked (check_documents (Some (get_or ids j 0)) (paired document (drop (i + 1) ids) (drop (i + 1) lengths))) ≡ whole
  unfolding check_documents
  documents_next j q h k =
      rw q (rw (drop_step ids i 0 h, drop_step lengths i 0 (omega arith), lt-ltb previous (get_or ids i 0) k) at inv)

  pub documents_stop : i < length ids → get_or ids i 0 ≤ previous → Err (invalid_layout document_lengths_not_increasing) ≡ whole
  unfolding check_documents
  documents_stop h k = rw (drop_step ids i 0 h, drop_step lengths i 0 (omega arith), le-ltb previous (get_or ids i 0) k) at inv

  pub documents_end : length ids ≤ i → (Ok tt) ≡ whole
  unfolding check_documents
  documents_end h = rw (drop_end ids i h) at inv

-- ---- the positions from an index on

pub positions_stop : (len : ℕ) (ps : List ℕ) (i : ℕ) (previous : Option ℕ) {whole : (Answer (Unit {0}))} {x : Refusal}
    → checked (check_positions len previous (drop i ps)) ≡ whole → i < length ps
    → Err x ≡ checked (position_checks len previous (get_or ps i 0)) → Err x ≡ whole
unfolding check_positions
positions_stop len ps i previous inv h e =
    stops (position_checks len previous (get_or ps i 0)) _ (rw (drop_step ps i 0 h) at inv) e
