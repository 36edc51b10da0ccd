-- The checksum's register does the division by G: a window of coefficients, the highest as the lowest bit, is what the register holds.
-- Assumes nothing.
use mathlib.Core.Path.{◌≡◌, refl, sym, ap, ap₂, ◌∙◌}
use mathlib.Core.List.{List, [], ◌∷◌, ◌++◌, map}
use mathlib.Core.Bool.{Bool, true, false, not}
use Prim.Native.Nat.{ℕ, zero, suc, ◌+◌, ◌-◌, ◌*◌, ◌/◌, ◌%◌, ◌^◌, ◌≤◌, ◌<◌}
use native.Mathlib.Nat.{pow-suc}
use native.Mathlib.Omega.{arith}
use lib.Dec.{eqb}
use lib.ListN.{length, replicate, length-append}
use lib.Bits.{bit_xor, xor_comm, xor_zero_r, xor_shifted, xor_block}
use Rattle.crc32.specs.Crc32.{differs, plus, generator, divided, remainder, bits, message, complement_first, number, crc32_of}
use Rattle.crc32.specs.Formula.{step, steps, along}
use Rattle.crc32.specs.Claims as claims
use Rattle.common.proofs.Bytes.{Bytes, none, one, each_below}
use Rattle.crc32.proofs.Xor.{xor_assoc}
use Rattle.crc32.proofs.Registers.{step_even}

-- ---- sums of polynomials

differs_assoc : (a b c : Bool) → differs (differs a b) c ≡ differs a (differs b c)
differs_assoc false b c = refl
differs_assoc true false c = refl
differs_assoc true true false = refl
differs_assoc true true true = refl

plus_assoc : (xs ys zs : List Bool) → plus (plus xs ys) zs ≡ plus xs (plus ys zs)
unfolding plus
plus_assoc [] ys zs = refl
plus_assoc (x ∷ xs) [] zs = refl
plus_assoc (x ∷ xs) (y ∷ ys) [] = refl
plus_assoc (x ∷ xs) (y ∷ ys) (z ∷ zs) = ap₂ (λ b l. b ∷ l) (differs_assoc x y z) (plus_assoc xs ys zs)

pub plus_length : (xs ys : List Bool) → length xs ≤ length ys → length (plus xs ys) ≡ length ys
unfolding plus
plus_length [] ys h = refl
plus_length (x ∷ xs) [] h = absurd (omega arith)
plus_length (x ∷ xs) (y ∷ ys) h = ap suc (plus_length xs ys (omega arith))

plus_zeros : (n : ℕ) (ys : List Bool) → n ≤ length ys → plus (replicate n false) ys ≡ ys
unfolding plus
plus_zeros zero ys h = refl
plus_zeros (suc n) [] h = absurd (omega arith)
plus_zeros (suc n) (y ∷ ys) h = ap (λ l. y ∷ l) (plus_zeros n ys (omega arith))

-- ---- the claim: p is a multiple of G plus the remainder

twice : plus generator generator ≡ replicate 32 false
unfolding plus
twice = refl

divides_by : (n : ℕ) (p : List Bool) → length p ≡ n + 32 → claims.IsRemainder p (divided n p)
unfolding divided plus claims.times_G
divides_by zero p h = record { quotient = []; size = h; adds_up = sym (plus_zeros 32 p (omega arith)) }
divides_by (suc n) [] h = absurd (omega arith)
divides_by (suc n) (false ∷ p) h =
    let i = divides_by n p (omega arith) in
    record { quotient = false ∷ i.quotient; size = i.size; adds_up = ap (λ l. false ∷ l) i.adds_up }
divides_by (suc n) (true ∷ p) h =
    let i = divides_by n (plus generator p) (omega (arith, plus_length generator p (omega arith))) in
    record {
      quotient = true ∷ i.quotient;
      size = i.size;
      adds_up =
          ap (λ l. true ∷ l)
          (sym (plus_zeros 32 p (omega arith))
          ∙ ap (λ l. plus l p) (sym twice)
          ∙ plus_assoc generator generator p
          ∙ ap (plus generator) i.adds_up
          ∙ sym (plus_assoc generator (claims.times_G i.quotient) _));
    }

pub divides : claims.Divides
divides p h = divides_by (length p - 32) p (omega arith)

-- ---- coefficients as a number, the highest as the lowest bit

abbrev bit : Bool → ℕ
bit true = 1
bit false = 0

bit_lt : (b : Bool) → bit b < 2
bit_lt true = omega arith
bit_lt false = omega arith

bit_sum : (a b : Bool) → bit (differs a b) ≡ bit_xor (bit a) (bit b)
bit_sum true true = refl
bit_sum true false = refl
bit_sum false true = refl
bit_sum false false = refl

bit_odd : (x : ℕ) → x < 2 → bit (eqb x 1) ≡ x
bit_odd zero h = refl
bit_odd (suc zero) h = refl
bit_odd (suc (suc x)) h = absurd (omega arith)

number_cons : (b : Bool) (bs : List Bool) → number (b ∷ bs) ≡ number bs * 2 + bit b
unfolding number
number_cons true bs = omega arith
number_cons false bs = omega arith

number_plus : (xs ys : List Bool) → number (plus xs ys) ≡ bit_xor (number xs) (number ys)
unfolding plus number
number_plus [] ys = refl
number_plus (x ∷ xs) [] = sym (xor_zero_r (number (x ∷ xs)))
number_plus (x ∷ xs) (y ∷ ys) =
    number_cons (differs x y) (plus xs ys)
    ∙ ap₂ (λ (n b : ℕ). n * 2 + b) (number_plus xs ys) (bit_sum x y)
    ∙ sym (xor_block 1 (number xs) (number ys) (bit x) (bit y) (bit_lt x) (bit_lt y))
    ∙ ap₂ bit_xor (sym (number_cons x xs)) (sym (number_cons y ys))

pub number_bits : (n b : ℕ) → b < 2 ^ n → number (bits n b) ≡ b
unfolding number bits
number_bits zero b h = omega arith
number_bits (suc n) b h =
    number_cons (eqb (b % 2) 1) (bits n (b / 2))
    ∙ omega (arith, number_bits n (b / 2) (omega (arith, rw (pow-suc 2 n) at h)), bit_odd (b % 2) (omega arith))

pub reflected : claims.Reflected
unfolding number
reflected = refl

-- a step takes the highest coefficient away
step_cons : (x : ℕ) (b : Bool) (bs : List Bool) → step (bit_xor x (number (b ∷ bs))) ≡ bit_xor (number bs) (step (bit_xor x (bit b)))
step_cons x b bs =
    ap step
    (ap (bit_xor x) (number_cons b bs ∙ sym (xor_shifted (number bs) 1 (bit b) (bit_lt b)) ∙ xor_comm (number bs * 2) (bit b))
    ∙ sym (xor_assoc x (bit b) (number bs * 2))
    ∙ xor_comm (bit_xor x (bit b)) (number bs * 2))
    ∙ step_even (number bs) (bit_xor x (bit b))

-- ---- the register along bits, each added to it as a coefficient goes

unfoldable pub along_bits : ℕ → List Bool → ℕ
along_bits c [] = c
along_bits c (b ∷ bs) = along_bits (step (bit_xor c (bit b))) bs

-- w: what the division has added so far to the coefficients that come next
unfoldable pub DividesOn : List Bool → Type 0
DividesOn bs = (w : List Bool) → number (divided (length bs) (plus w (bs ++ replicate 32 false))) ≡ along_bits (number w) bs

one_more : (bs : List Bool) → DividesOn bs → (h : Bool) (t : List Bool)
    → number (divided (suc (length bs)) (h ∷ plus t (bs ++ replicate 32 false))) ≡ along_bits (bit_xor (number t) (step (bit h))) bs
unfolding DividesOn divided step number
one_more bs before false t = before t ∙ ap (λ x. along_bits x bs) (sym (xor_zero_r (number t)))
one_more bs before true t =
    ap (λ l. number (divided (length bs) l)) (sym (plus_assoc generator t (bs ++ replicate 32 false)))
    ∙ before (plus generator t)
    ∙ ap (λ x. along_bits x bs) (number_plus generator t ∙ xor_comm (number generator) (number t) ∙ ap (bit_xor (number t)) reflected)

pub by_division : (bs : List Bool) → DividesOn bs
unfolding DividesOn divided plus number along_bits
by_division [] w = number_plus w (replicate 32 false) ∙ xor_zero_r (number w)
by_division (b ∷ bs) [] = one_more bs (by_division bs) b []
by_division (b ∷ bs) (h ∷ t) =
    one_more bs (by_division bs) (differs h b) t
    ∙ ap (λ x. along_bits x bs)
    (ap (λ x. bit_xor (number t) (step x)) (bit_sum h b ∙ xor_comm (bit h) (bit b))
    ∙ sym (step_cons (bit b) h t)
    ∙ ap step (xor_comm (bit b) (number (h ∷ t))))

-- ---- the register along bytes

pub steps_bits : (bs : List Bool) (c : ℕ) → steps (length bs) (bit_xor c (number bs)) ≡ along_bits c bs
unfolding steps number along_bits
steps_bits [] c = xor_zero_r c
steps_bits (b ∷ bs) c =
    ap (steps (length bs)) (step_cons c b bs ∙ xor_comm (number bs) (step (bit_xor c (bit b))))
    ∙ steps_bits bs (step (bit_xor c (bit b)))

pub bits_append : (bs cs : List Bool) (c : ℕ) → along_bits c (bs ++ cs) ≡ along_bits (along_bits c bs) cs
unfolding along_bits
bits_append [] cs c = refl
bits_append (b ∷ bs) cs c = bits_append bs cs (step (bit_xor c (bit b)))

along_message : {l : List ℕ} → Bytes l → (c : ℕ) → along c l ≡ along_bits c (message l)
unfolding along message bits along_bits
along_message none c = refl
along_message (one {b = b} {l = l} h r) c =
    ap (λ x. along (steps 8 (bit_xor c x)) l) (sym (number_bits 8 b h))
    ∙ ap (λ x. along x l) (steps_bits (bits 8 b) c)
    ∙ along_message r (along_bits c (bits 8 b))
    ∙ sym (bits_append (bits 8 b) (message l) c)

-- ---- complements are sums

complement_plus : (n : ℕ) (p : List Bool) → n ≤ length p → complement_first n p ≡ plus (replicate n true) p
unfolding complement_first plus
complement_plus zero p h = refl
complement_plus (suc n) [] h = absurd (omega arith)
complement_plus (suc n) (b ∷ p) h = ap (λ l. not b ∷ l) (complement_plus n p (omega arith))

map_not : (r : List Bool) → map not r ≡ plus (replicate (length r) true) r
unfolding plus
map_not [] = refl
map_not (b ∷ r) = ap (λ l. not b ∷ l) (map_not r)

number_not : (r : List Bool) → length r ≡ 32 → number (map not r) ≡ bit_xor (number r) 0xFFFFFFFF
unfolding number
number_not r h =
    ap number (map_not r ∙ ap (λ n. plus (replicate n true) r) h)
    ∙ number_plus (replicate 32 true) r
    ∙ xor_comm (number (replicate 32 true)) (number r)

-- the message's bits with 32 zeros after them, the first 32 complemented: the register has begun with ones
pub complemented : (m : List Bool)
    → bit_xor (along_bits 0xFFFFFFFF m) 0xFFFFFFFF ≡ number (map not (remainder (complement_first 32 (m ++ replicate 32 false))))
unfolding DividesOn number
complemented m =
    let p = m ++ replicate 32 false in
    let added = plus (replicate 32 true) p in
    let long : length p ≡ length m + 32 = length-append m (replicate 32 false) in
    let size : length added ≡ length m + 32 = plus_length (replicate 32 true) p (omega arith) ∙ long in
    ap (λ x. bit_xor x 0xFFFFFFFF) (sym (by_division m (replicate 32 true)))
    ∙ sym (number_not (divided (length m) added) (divides_by (length m) added size).size)
    ∙ ap (λ n. number (map not (divided n added))) (omega arith)
    ∙ ap (λ l. number (map not (remainder l))) (sym (complement_plus 32 p (omega arith)))

pub formula_agrees : claims.FormulaAgrees
unfolding crc32_of
formula_agrees l h = ap (λ x. bit_xor x 0xFFFFFFFF) (along_message (each_below l h) 0xFFFFFFFF) ∙ complemented (message l)
