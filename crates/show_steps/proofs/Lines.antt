-- A sound's line by its parts: stored one behind another, and how long it is.
-- Assumes nothing.
use Prim.Native.Nat.{ℕ, ◌+◌, ◌≤◌, ◌<◌}
use mathlib.Core.Path.{◌≡◌, refl, ap}
use mathlib.Core.List.{List, [], ◌∷◌, ◌++◌}
use native.Mathlib.Omega.{arith}
use lib.ListN.{length, length-append}
use Rattle.common.specs.Stores.{Stored}
use Rattle.common.proofs.Stores.{stored_length, stored_four}
use Rattle.calls.specs.Listing.{name_column}
use Rattle.calls.specs.Sheet.{right_justified, marks, sound_line}
use Rattle.show_columns.proofs.Columns.{hits_length, past_hits}
use Rattle.show_columns.proofs.Names.{name_most}
use Rattle.show_steps.proofs.Marks.{marks_length, past_steps}

sound_parts : (len : ℕ) (name hits : List ℕ)
    → sound_line len name hits ≡ name_column 12 name ++ marks len hits 64 0 ++ right_justified 4 (length hits) ++ 10 ∷ []
unfolding sound_line
sound_parts len name hits = refl

-- the room that is left behind the steps, and behind the number of hits
module _ (len : ℕ) (name hits : List ℕ) {at n₁ n₂ : ℕ} {l o₁ o₂ : List ℕ} (room : at + length (name_column 12 name) + 69 ≤ length l)
    (a : Stored (name_column 12 name) at l n₁ o₁) (b : Stored (marks len hits 64 0) n₁ o₁ n₂ o₂) where
  pub past_steps_room : n₂ + 5 ≤ length o₂
  past_steps_room = omega (arith, past_steps len hits b, stored_length a, stored_length b)

  pub past_hits_room : (count : ℕ) {n₃ : ℕ} {o₃ : List ℕ} → Stored (right_justified 4 count) n₂ o₂ n₃ o₃ → count < 100 → n₃ + 1 ≤ length o₃
  past_hits_room count c few = omega (arith, past_steps_room, past_hits count c (omega arith), stored_length c)

-- `found` are the hits as a cursor shows them, `count` is how many there are
pub sound_stored : (len : ℕ) (name hits : List ℕ) {found l o₁ o₂ o₃ o₄ : List ℕ} {count at n₁ n₂ n₃ n₄ : ℕ}
    → found ≡ hits → length hits ≡ count
    → Stored (name_column 12 name) at l n₁ o₁ → Stored (marks len found 64 0) n₁ o₁ n₂ o₂
    → Stored (right_justified 4 count) n₂ o₂ n₃ o₃ → Stored (10 ∷ []) n₃ o₃ n₄ o₄ → Stored (sound_line len name hits) at l n₄ o₄
sound_stored len name hits same all a b c d = rw (sound_parts, all, ← same) (stored_four a b c d)

-- with fewer than 10,000 hits, so that their number has four digits at most
module _ (len : ℕ) (name hits : List ℕ) (few : length hits < 10000) where
  pub sound_length : length (sound_line len name hits) ≡ length (name_column 12 name) + 69
  sound_length =
      let steps = marks len hits 64 0 in
      let count = right_justified 4 (length hits) in
      omega (
        arith,
        ap length (sound_parts len name hits),
        length-append (name_column 12 name ++ steps ++ count) (10 ∷ []),
        length-append (name_column 12 name ++ steps) count,
        length-append (name_column 12 name) steps,
        marks_length len hits 64 0,
        hits_length (length hits) few,
      )

  -- four bytes at most for each character of the name, and 69
  pub sound_most : length (sound_line len name hits) ≤ 117
  sound_most = omega (arith, sound_length, name_most 12 name)
