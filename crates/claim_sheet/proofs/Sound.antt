-- A sound's line by its three parts: name, steps, number of hits.
-- Assumes nothing.
use mathlib.Core.Path.{◌≡◌, refl, sym, ap, ◌∙◌, subst}
use mathlib.Core.List.{List, [], ◌∷◌, ◌++◌, append_assoc}
use Prim.Native.Nat.{ℕ, ◌+◌, ◌≤◌, ◌<◌}
use native.Mathlib.Omega.{arith}
use lib.ListN.{length, take, drop, get_or, length-append, get_or-append}
use lib.Seq.{take_at, drop_at, get_or-append-add}
use Rattle.common.specs.Elements.{◌∈◌, Rising}
use Rattle.utf8.specs.Utf8.{text, decoded}
use Rattle.utf8.proofs.Decoded.{text_append, scalars_append}
use Rattle.calls.specs.Listing.{fitted, name_column}
use Rattle.calls.specs.Sheet.{right_justified, mark, marks, sound_line}
use Rattle.calls.proofs.Characters.{fitted_length, column_scalars}
use Rattle.show_columns.proofs.Columns.{hits_length}
use Rattle.show_steps.proofs.Marks.{marks_length}
use Rattle.claim_sheet.specs.Words.{InColumns, Line, at_step, times}
use Rattle.claim_sheet.proofs.Printing.{plain_marks, plain_justified, plain_scalars, plain_text}
use Rattle.claim_sheet.proofs.Printing.{unbroken_plain, unbroken_append, unbroken_fitted}
use Rattle.claim_sheet.proofs.Decimals.{in_width}
use Rattle.claim_sheet.proofs.Marks.{marks_at, marks_drawn}

abbrev pub sound_characters : (len : ℕ) (name hits : List ℕ) → List ℕ
sound_characters len name hits = fitted 12 (decoded name) ++ marks len hits 64 0 ++ right_justified 4 (length hits)

module _ (len : ℕ) (name hits : List ℕ) where
  abbrev front : List ℕ
  front = fitted 12 (decoded name)

  abbrev steps : List ℕ
  steps = marks len hits 64 0

  abbrev count : List ℕ
  count = right_justified 4 (length hits)

  pub sound_line_is : sound_line len name hits ≡ text (sound_characters len name hits) ++ 10 ∷ []
  unfolding sound_line name_column
  sound_line_is =
      let whole : text (front ++ steps ++ count) ≡ text front ++ steps ++ count =
      text_append (front ++ steps) count
      ∙ cc (
        text_append front steps,
        plain_text steps (plain_marks len hits 64 0),
        plain_text count (plain_justified 4 (length hits)),
      ) in
      ap (λ (l : List ℕ). l ++ 10 ∷ []) (sym whole)

  twelve : length front ≡ 12
  twelve = fitted_length 12 (decoded name)

  front_steps : length (front ++ steps) ≡ 76
  front_steps = omega (arith, length-append front steps, twelve, marks_length len hits 64 0)

  module _ (few : length hits ≤ 64) where
    pub is_line : Line (sound_characters len name hits)
    is_line = record {
      characters =
          scalars_append (front ++ steps) count
          (scalars_append front steps (column_scalars 12 name) (plain_scalars steps (plain_marks len hits 64 0)))
          (plain_scalars count (plain_justified 4 (length hits)));
      wide = omega (arith, length-append (front ++ steps) count, front_steps, hits_length (length hits) (omega arith));
      one_line =
          unbroken_append (front ++ steps) count
          (unbroken_append front steps (unbroken_fitted 12 (decoded name)) (unbroken_plain steps (plain_marks len hits 64 0)))
          (unbroken_plain count (plain_justified 4 (length hits)));
    }

    pub has_number : InColumns 4 (length hits) (drop 76 (sound_characters len name hits))
    has_number =
        subst (InColumns 4 (length hits)) (sym (drop_at (front ++ steps) count 76 front_steps))
        (in_width (length hits) (omega arith) 4 (hits_length (length hits) (omega arith)))

  pub step_at : (s : ℕ) → s < 64 → at_step (sound_characters len name hits) s ≡ mark len hits s
  step_at s h =
      let place : 12 + s ≡ length front + s = omega (arith, twelve) in
      get_or-append (front ++ steps) count 0 (12 + s) (omega (arith, front_steps))
      ∙ ap (λ (i : ℕ). get_or (front ++ steps) i 0) place
      ∙ get_or-append-add front steps s 0
      ∙ marks_at len hits 64 s h

  pub has_name : take 12 (sound_characters len name hits) ≡ front
  has_name = ap (take 12) (append_assoc front steps count) ∙ take_at front (steps ++ count) 12 twelve

  has_steps : take 64 (drop 12 (sound_characters len name hits)) ≡ steps
  has_steps =
      ap (λ (l : List ℕ). take 64 (drop 12 l)) (append_assoc front steps count)
      ∙ ap (take 64) (drop_at front (steps ++ count) 12 twelve)
      ∙ take_at steps count 64 (marks_length len hits 64 0)

  pub as_many : Rising hits → ((s : ℕ) → s ∈ hits → s < 64)
      → length hits ≡ times 111 (take 64 (drop 12 (sound_characters len name hits)))
  as_many r below = sym (ap (times 111) has_steps ∙ marks_drawn len 64 hits 64 0 refl r (λ s m. omega arith) below)
