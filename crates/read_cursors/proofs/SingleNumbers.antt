-- Numbers of one byte each: skipped at once, and each of them read where it stands.
-- Assumes nothing.
use Rattle.std.specs.Prelude.{Some}
use Prim.Native.Nat.{ℕ, zero, suc, ◌+◌, ◌^◌, ◌≤◌, ◌<◌}
use mathlib.Core.Path.{◌≡◌, refl, sym, ap, ◌∙◌}
use mathlib.Core.List.{List, [], ◌∷◌}
use native.Mathlib.Omega.{arith}
use lib.ListN.{length, drop, get_or, length-drop}
use lib.Seq.{get_or-drop, drop-drop}
use borrow.Author.Tests.{lt-ltb}
use Rattle.common.proofs.Loops.{drop_step}
use Rattle.leb128.specs.declared.varint.Number.{Number}
use Rattle.leb128.specs.Leb128.{uleb128, stored}
use Rattle.leb128.specs.Promise.{decoded, decoded_at}
use Rattle.read_cursors.specs.Held.{skipped}
use Rattle.read_cursors.specs.Singles.{Singles}

stored_low : (b : ℕ) (l : List ℕ) → b < 128 → stored (b ∷ l) ≡ Some (record { value = b; size = 1 })
unfolding uleb128
stored_low b l h = rw (lt-ltb b 128 h, lt-ltb b (2 ^ 32) (omega arith))

low_skipped : (c : ℕ) (l : List ℕ) → c ≤ length l → ((i : ℕ) → i < c → get_or l i 0 < 128) → skipped c l ≡ drop c l
unfolding skipped
low_skipped zero l h low = refl
low_skipped (suc c) [] h low = absurd (omega arith)
low_skipped (suc c) (b ∷ l) h low =
    rw (stored_low b l (low 0 (omega arith))) (low_skipped c l (omega arith) (λ i j. low (suc i) (omega arith)))

-- a number, and the reader past it
abbrev pub single : ℕ → ℕ → Number
single value at = record { value = value; next = record { at = at } }

module _ (s : List ℕ) (at count : ℕ) (ones : Singles s at count) where
  -- all but the last few are skipped at once
  pub singles_skipped : (c : ℕ) → c ≤ count → drop (at + c) s ≡ skipped c (drop at s)
  singles_skipped c h =
      let n = length-drop at s in
      let r = ones.room in
      sym (low_skipped c (drop at s) (omega arith) (λ i j. rw get_or-drop (ones.low i (omega arith))) ∙ drop-drop c at s)

  -- one of them
  pub singles_decoded : (i here : ℕ) → i < count → here ≡ at + i → decoded_at s here ≡ Some (single (get_or s here 0) (here + 1))
  singles_decoded i here h e =
      let low : get_or s here 0 < 128 = rw e (ones.low i h) in
      ap (λ (l : List ℕ). decoded here (stored l)) (drop_step s here 0 (omega (arith, ones.room)))
      ∙ ap (decoded here) (stored_low (get_or s here 0) (drop (here + 1) s) low)
