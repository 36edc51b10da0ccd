-- A word of eight bytes: its bytes cut, their high bits, their sum.
-- Assumes nothing.
use mathlib.Core.Path.{◌≡◌, refl, sym, ap, ◌∙◌}
use mathlib.Core.List.{List, [], ◌∷◌}
use Prim.Native.Nat.{ℕ, zero, suc, ◌+◌, ◌-◌, ◌*◌, ◌/◌, ◌%◌, ◌^◌, ◌≤◌, ◌<◌}
use native.Mathlib.Omega.{arith}
use native.Mathlib.Nat.{zero-mod, zero-div}
use lib.Bits.{bit_and, and_block, and_high, and_le_r}
use lib.ListN.{length, take, drop, get_or}
use lib.Pow.{mod-pow-add, shr-shr}
use lib.Seq.{get_or-drop}
use Rattle.common.specs.Lists.{total}
use Rattle.common.proofs.Bytes.{Bytes, none, one}
use Rattle.segment.specs.Records.{little_endian}

-- ---- the first bytes, and the others

module _ (b x : ℕ) (small : b < 256) where
  pub first_byte : (b + 256 * x) % 2 ^ 8 ≡ b
  first_byte = omega arith

  pub other_bytes : (b + 256 * x) / 2 ^ 8 ≡ x
  other_bytes = omega arith

pub bytes_taken : (n : ℕ) (l : List ℕ) → Bytes l → Bytes (take n l)
bytes_taken zero l bs = none
bytes_taken (suc n) [] bs = none
bytes_taken (suc n) (b ∷ l) (one small bs) = one small (bytes_taken n l bs)

bytes_dropped : (n : ℕ) (l : List ℕ) → Bytes l → Bytes (drop n l)
bytes_dropped zero l bs = bs
bytes_dropped (suc n) [] bs = none
bytes_dropped (suc n) (b ∷ l) (one small bs) = bytes_dropped n l bs

front_byte : (l : List ℕ) → Bytes l → little_endian l % 256 ≡ get_or l 0 0
front_byte [] bs = refl
front_byte (b ∷ l) (one small bs) = first_byte b (little_endian l) small

pub word_taken : (c : ℕ) (l : List ℕ) → Bytes l → little_endian l % 2 ^ (8 * c) ≡ little_endian (take c l)
word_taken zero l bs = omega arith
word_taken (suc c) [] bs = zero-mod (2 ^ (8 * suc c))
word_taken (suc c) (b ∷ l) (one small bs) =
    let e : 8 * suc c ≡ 8 * c + 8 = omega arith in
    let x = little_endian l in
    let step : (b + 256 * x) % 2 ^ (8 * c + 8) ≡ little_endian (take c l) * 2 ^ 8 + b
    = mod-pow-add (b + 256 * x) (8 * c) 8 ∙ rw (other_bytes b x small, first_byte b x small, word_taken c l bs) in
    rw e (step ∙ omega arith)

pub word_dropped : (c : ℕ) (l : List ℕ) → Bytes l → little_endian l / 2 ^ (8 * c) ≡ little_endian (drop c l)
word_dropped zero l bs = omega arith
word_dropped (suc c) [] bs = zero-div (2 ^ (8 * suc c))
word_dropped (suc c) (b ∷ l) (one small bs) =
    let e : 8 * suc c ≡ 8 + 8 * c = omega arith in
    rw (e, ← shr-shr (b + 256 * little_endian l) 8 (8 * c), other_bytes b (little_endian l) small) (word_dropped c l bs)

-- a byte further on
pub word_byte : (c : ℕ) (l : List ℕ) → Bytes l → little_endian l / 2 ^ (8 * c) % 256 ≡ get_or l c 0
word_byte c l bs =
    let z : c + 0 ≡ c = omega arith in
    rw (word_dropped c l bs, front_byte (drop c l) (bytes_dropped c l bs), get_or-drop c l 0 0, z)

-- ---- bytes below 32

abbrev upper : ℕ → ℕ
upper zero = 0
upper (suc n) = upper n * 256 + 224

low_byte : (b : ℕ) → b < 256 → bit_and b 224 ≡ 0 → b < 32
low_byte b h e =
    let f : bit_and b 224 ≡ (b / 32 % 8) * 32 = and_high b 3 5 in
    let g : (b / 32 % 8) * 32 ≡ 0 = sym f ∙ e in
    let k : b / 32 % 8 ≡ b / 32 = omega arith in
    omega arith

low_split : (b x h : ℕ) → b < 256 → bit_and (b + 256 * x) (h * 256 + 224) ≡ 0 → (b < 32) × (bit_and x h ≡ 0)
low_split b x h small e =
    let c : b + 256 * x ≡ x * 256 + b = omega arith in
    let f : bit_and (x * 256 + b) (h * 256 + 224) ≡ bit_and x h * 256 + bit_and b 224 = and_block 8 x h b 224 small (omega arith) in
    let g : bit_and x h * 256 + bit_and b 224 ≡ 0 = sym f ∙ ap (λ (y : ℕ). bit_and y (h * 256 + 224)) (sym c) ∙ e in
    let z : bit_and b 224 ≡ 0 = omega arith in
    let y : bit_and x h ≡ 0 = omega arith in
    (low_byte b small z, y)

pub all_low : (n : ℕ) (l : List ℕ) → Bytes l → length l ≤ n → bit_and (little_endian l) (upper n) ≡ 0 → (i : ℕ) → get_or l i 0 < 32
all_low n [] bs h e i = omega arith
all_low zero (b ∷ l) bs h e i = absurd (omega arith)
all_low (suc n) (b ∷ l) (one small bs) h e zero = (low_split b (little_endian l) (upper n) small e).0
all_low (suc n) (b ∷ l) (one small bs) h e (suc i) =
    all_low n l bs (omega arith) (low_split b (little_endian l) (upper n) small e).1 i

-- ---- bytes above 0

abbrev pub highs : ℕ → ℕ
highs zero = 0
highs (suc n) = highs n * 256 + 128

abbrev sevens : ℕ → ℕ
sevens zero = 0
sevens (suc n) = sevens n * 256 + 127

up_byte : (b : ℕ) → b < 128 → bit_and (b + 127) 128 ≡ 128 → 0 < b
up_byte b h e =
    let f : bit_and (b + 127) 128 ≡ ((b + 127) / 128 % 2) * 128 = and_high (b + 127) 1 7 in
    let g : ((b + 127) / 128 % 2) * 128 ≡ 128 = sym f ∙ e in
    omega arith

up_split : (b x s h : ℕ) → b < 128 → bit_and (b + 256 * x + (s * 256 + 127)) (h * 256 + 128) ≡ h * 256 + 128
    → (0 < b) × (bit_and (x + s) h ≡ h)
up_split b x s h small e =
    let c : b + 256 * x + (s * 256 + 127) ≡ (x + s) * 256 + (b + 127) = omega arith in
    let f : bit_and ((x + s) * 256 + (b + 127)) (h * 256 + 128) ≡ bit_and (x + s) h * 256 + bit_and (b + 127) 128
    = and_block 8 (x + s) h (b + 127) 128 (omega arith) (omega arith) in
    let g : bit_and (x + s) h * 256 + bit_and (b + 127) 128 ≡ h * 256 + 128
    = sym f ∙ ap (λ (y : ℕ). bit_and y (h * 256 + 128)) (sym c) ∙ e in
    let m = and_le_r (b + 127) 128 in
    let z : bit_and (b + 127) 128 ≡ 128 = omega arith in
    let y : bit_and (x + s) h ≡ h = omega arith in
    (up_byte b small z, y)

pub all_up : (c n : ℕ) (l : List ℕ) → c ≤ n → c ≤ length l → ((i : ℕ) → get_or l i 0 < 128)
    → bit_and (little_endian l + sevens n) (highs c) ≡ highs c → (i : ℕ) → i < c → 0 < get_or l i 0
all_up zero n l h k low e i j = absurd (omega arith)
all_up (suc c) zero l h k low e i j = absurd (omega arith)
all_up (suc c) (suc n) [] h k low e i j = absurd (omega arith)
all_up (suc c) (suc n) (b ∷ l) h k low e zero j = (up_split b (little_endian l) (sevens n) (highs c) (low 0) e).0
all_up (suc c) (suc n) (b ∷ l) h k low e (suc i) j =
    all_up c n l (omega arith) (omega arith) (λ i. low (suc i)) (up_split b (little_endian l) (sevens n) (highs c) (low 0) e).1 i
    (omega arith)

-- the code's mask
pub mask : (c : ℕ) → 0 < c → c ≤ 6 → 0x808080808080 / 2 ^ (56 - 8 * c) ≡ highs (c - 1)
mask zero l h = absurd (omega arith)
mask (suc zero) l h = refl
mask (suc (suc zero)) l h = refl
mask (suc (suc (suc zero))) l h = refl
mask (suc (suc (suc (suc zero)))) l h = refl
mask (suc (suc (suc (suc (suc zero))))) l h = refl
mask (suc (suc (suc (suc (suc (suc zero)))))) l h = refl
mask (suc (suc (suc (suc (suc (suc (suc c))))))) l h = absurd (omega arith)

-- ---- the sum of the bytes

sum_mod : (l : List ℕ) → little_endian l % 255 ≡ total l % 255
sum_mod [] = refl
sum_mod (b ∷ l) = let ih = sum_mod l in omega arith

sum_low : (l : List ℕ) → ((i : ℕ) → get_or l i 0 < 32) → total l ≤ 31 * length l
sum_low [] low = omega arith
sum_low (b ∷ l) low = let h = low 0 in let ih = sum_low l (λ i. low (suc i)) in omega arith

pub word_sum : (l : List ℕ) → ((i : ℕ) → get_or l i 0 < 32) → length l ≤ 6 → little_endian l % 255 ≡ total l
word_sum l low h = let s = sum_low l low in let m = sum_mod l in omega arith
