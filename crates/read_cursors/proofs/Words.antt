-- The high bits of a word's bytes: where the mask finds none, the first bytes are below 128.
-- Assumes nothing.
use Prim.Native.Nat.{ℕ, zero, suc, ◌+◌, ◌-◌, ◌*◌, ◌/◌, ◌%◌, ◌^◌, ◌≤◌, ◌<◌}
use mathlib.Core.Path.{◌≡◌, refl, sym, ap, ◌∙◌}
use mathlib.Core.Bool.{true}
use mathlib.Core.List.{List, [], ◌∷◌}
use native.Mathlib.Omega.{arith}
use lib.Bits.{bit_and, and_block, and_high}
use lib.Dec.{eqb}
use lib.ListN.{length, take, drop, get_or, length-drop}
use lib.Seq.{get_or-drop}
use borrow.Author.Tests.{eqb-true}
use Rattle.common.proofs.Bytes.{Bytes, one, each_below}
use Rattle.segment.specs.Records.{little_endian, field}
use Rattle.read_cursors.specs.Singles.{Singles}

-- the high bits of so many bytes
abbrev highs : ℕ → ℕ
highs zero = 0
highs (suc c) = highs c * 256 + 128

-- a byte without its high bit
low_byte : (b : ℕ) → b < 256 → bit_and b 128 ≡ 0 → b < 128
low_byte b h e =
    let f : bit_and b 128 ≡ (b / 128 % 2) * 128 = and_high b 1 7 in
    let g : (b / 128 % 2) * 128 ≡ 0 = sym f ∙ e in
    let k : b / 128 % 2 ≡ b / 128 = omega arith in
    omega arith

-- a word's first byte, and the word of the others
split : (b x h : ℕ) → b < 256 → bit_and (b + 256 * x) (h * 256 + 128) ≡ 0 → (b < 128) × (bit_and x h ≡ 0)
split b x h small e =
    let c : b + 256 * x ≡ x * 256 + b = omega arith in
    let f : bit_and (x * 256 + b) (h * 256 + 128) ≡ bit_and x h * 256 + bit_and b 128 = and_block 8 x h b 128 small (omega arith) in
    let g : bit_and x h * 256 + bit_and b 128 ≡ 0 = sym f ∙ ap (λ (y : ℕ). bit_and y (h * 256 + 128)) (sym c) ∙ e in
    let z : bit_and b 128 ≡ 0 = omega arith in
    let y : bit_and x h ≡ 0 = omega arith in
    (low_byte b small z, y)

-- none of the first bytes of a list has its high bit
words_low : (c n : ℕ) (l : List ℕ) → Bytes l → c ≤ n → c ≤ length l → bit_and (little_endian (take n l)) (highs c) ≡ 0
    → (i : ℕ) → i < c → get_or l i 0 < 128
words_low zero n l bs h k e i j = absurd (omega arith)
words_low (suc c) zero l bs h k e i j = absurd (omega arith)
words_low (suc c) (suc n) [] bs h k e i j = absurd (omega arith)
words_low (suc c) (suc n) (b ∷ l) (one small bs) h k e zero j = (split b (little_endian (take n l)) (highs c) small e).0
words_low (suc c) (suc n) (b ∷ l) (one small bs) h k e (suc i) j =
    words_low c n l bs (omega arith) (omega arith) (split b (little_endian (take n l)) (highs c) small e).1 i (omega arith)

-- the code's mask
mask : (c : ℕ) → 0 < c → c ≤ 8 → 0x8080808080808080 / 2 ^ (64 - 8 * c) ≡ highs c
mask zero l h = absurd (omega arith)
mask (suc zero) l h = refl
mask (suc (suc zero)) l h = refl
mask (suc (suc (suc zero))) l h = refl
mask (suc (suc (suc (suc zero)))) l h = refl
mask (suc (suc (suc (suc (suc zero))))) l h = refl
mask (suc (suc (suc (suc (suc (suc zero)))))) l h = refl
mask (suc (suc (suc (suc (suc (suc (suc zero))))))) l h = refl
mask (suc (suc (suc (suc (suc (suc (suc (suc zero)))))))) l h = refl
mask (suc (suc (suc (suc (suc (suc (suc (suc (suc c))))))))) l h = absurd (omega arith)

-- the code's test
module _ (s : List ℕ) (at : ℕ) (bytes : (i : ℕ) → get_or s i 0 < 256) (room : at + 8 ≤ length s) (c : ℕ) (few : 0 < c) (most : c ≤ 8) where
  pub tested : (shift : ℕ) → shift ≡ 64 - 8 * c → (word : ℕ) → word ≡ field 8 at s
      → eqb (bit_and word (0x8080808080808080 / 2 ^ shift)) 0 ≡ true
      → Singles s at c
  tested shift h word w e =
      let below : (i : ℕ) → get_or (drop at s) i 0 < 256 = λ i. rw get_or-drop (bytes (at + i)) in
      let m : 0x8080808080808080 / 2 ^ shift ≡ highs c = rw h (mask c few most) in
      let z : bit_and (field 8 at s) (highs c) ≡ 0 = rw (← w, ← m) (eqb-true (bit_and word (0x8080808080808080 / 2 ^ shift)) 0 e) in
      let n = length-drop at s in
      let r : (i : ℕ) → i < c → get_or (drop at s) i 0 < 128 =
      words_low c 8 (drop at s) (each_below (drop at s) below) (omega arith) (omega arith) z in
      record { room = omega arith; low = λ i j. rw get_or-drop at (r i j) }
