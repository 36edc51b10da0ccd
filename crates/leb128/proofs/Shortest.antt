-- The bytes written for a number: a byte at a time, read back, and no form is shorter.
-- Assumes nothing.
use Rattle.std.specs.Prelude.{None, Option, Some}
use mathlib.Core.Path.{◌≡◌, refl, sym, ap, ◌∙◌}
use mathlib.Core.List.{List, [], ◌∷◌, ◌++◌}
use mathlib.Core.Bool.{Bool, true, false, cond, ◌&&◌}
use mathlib.Core.Logic.{⊎_elim, ◌⊎◌, inl, inr, ◌↔◌}
use Prim.Native.Nat.{ℕ, zero, suc, ◌+◌, ◌*◌, ◌/◌, ◌%◌, ◌^◌, ◌≤◌, ◌<◌}
use native.Mathlib.Nat.{pow-suc}
use native.Mathlib.Omega.{arith}
use lib.Dec.{ltb, leb}
use lib.ListN.{length, get_or}
use lib.Seq.{drop-append_seam}
use borrow.Author.Tests.{lt-ltb, le-ltb, le-leb, leb-true, ltb-true}
use Rattle.leb128.specs.Leb128.{Leb, below, uleb128, limited, chunks, encoded}
use Rattle.leb128.specs.Promise.{decoded_at}
use Rattle.leb128.specs.Claims as claims
use Rattle.common.proofs.Loops.{lt_or_ge, and_left, and_right}
use Rattle.leb128.proofs.Numbers.{value, size_pos}

-- a limit on the chunks does not show where the number is small enough for it
fewer : (n x : ℕ) → x < 128 ^ suc n → chunks n x ≡ chunks (suc n) x
unfolding chunks
fewer zero x h = rw (lt-ltb x 128 h)
fewer (suc n) x h =
    ap (λ l. cond (ltb x 128) (x ∷ []) ((x % 128 + 128) ∷ l)) (fewer n (x / 128) (omega (arith, rw (pow-suc 128 (suc n)) at h)))

pub last_byte : (x : ℕ) → x < 128 → encoded x ≡ x ∷ []
unfolding encoded chunks
last_byte x h = rw (lt-ltb x 128 h)

pub more_bytes : (x : ℕ) → 128 ≤ x → x < 2 ^ 32 → encoded x ≡ (x % 128 + 128) ∷ encoded (x / 128)
unfolding encoded chunks
more_bytes x h k = rw (le-ltb x 128 h) (ap (λ l. (x % 128 + 128) ∷ l) (fewer 3 (x / 128) (omega arith)))

-- read back, whatever follows
back : (n x : ℕ) (rest : List ℕ) → x < 128 ^ suc n → uleb128 (chunks n x ++ rest) ≡ Some (claims.leb_number x (length (chunks n x)))
unfolding chunks uleb128
back zero x rest h = rw (lt-ltb x 128 h)
back (suc n) x rest h =
    ⊎_elim
    (λ (y : x < 128). rw (lt-ltb x 128 y, lt-ltb x 128 y))
    (λ (y : 128 ≤ x).
    rw (
      le-ltb x 128 y,
      le-ltb (x % 128 + 128) 128 (omega arith),
      back n (x / 128) rest (omega (arith, rw (pow-suc 128 (suc n)) at h)),
    )
    (ap {B = Option Leb} (λ (v : ℕ). Some (claims.leb_number v (suc (length (chunks n (x / 128)))))) (omega arith)))
    (lt_or_ge x 128)

-- one byte at least, as many as there are chunks at most, each of eight bits
picked_le : (t : Bool) (a b : List ℕ) (m : ℕ) → length a ≤ m → length b ≤ m → length (cond t a b) ≤ m
picked_le true a b m h k = h
picked_le false a b m h k = k

sizes : (n x : ℕ) → length (chunks n x) ≤ suc n
unfolding chunks
sizes zero x = omega arith
sizes (suc n) x = picked_le (ltb x 128) _ _ (suc (suc n)) (omega arith) (omega (arith, sizes n (x / 128)))

pub encoded_size : (x : ℕ) → length (encoded x) ≤ 5
unfolding encoded
encoded_size x = sizes 4 x

chunk_bits : (n x : ℕ) → x < 128 ^ suc n → (i : ℕ) → get_or (chunks n x) i 0 < 256
unfolding chunks
chunk_bits zero x h zero = omega arith
chunk_bits zero x h (suc i) = omega arith
chunk_bits (suc n) x h i =
    ⊎_elim
    (λ (y : x < 128). rw (lt-ltb x 128 y) (one i y))
    (λ (y : 128 ≤ x). rw (le-ltb x 128 y) (two i (chunk_bits n (x / 128) (omega (arith, rw (pow-suc 128 (suc n)) at h)))))
    (lt_or_ge x 128)
  where
    one : (i : ℕ) → x < 128 → get_or (x ∷ []) i 0 < 256
    one zero y = omega arith
    one (suc i) y = omega arith

    two : (i : ℕ) → ((j : ℕ) → get_or (chunks n (x / 128)) j 0 < 256) → get_or ((x % 128 + 128) ∷ chunks n (x / 128)) i 0 < 256
    two zero ih = omega arith
    two (suc i) ih = ih i

abbrev value_of : Option Leb → ℕ
value_of None = 0
value_of (Some r) = r.value

abbrev size_of : Option Leb → ℕ
size_of None = 0
size_of (Some r) = r.size

-- a form of k bytes says less than 128 ^ k, so it has at least as many bytes as the chunks
found_size : (b : ℕ) (o : Option Leb) (t : Bool) (v k n : ℕ) → ltb b 128 ≡ t → 128 ^ n ≤ v → 1 ≤ k
    → cond t (Some (claims.leb_number b 1)) (below b o) ≡ Some (claims.leb_number v k)
    → ((w j m : ℕ) → n ≡ suc m → v / 128 ≡ w → o ≡ Some (claims.leb_number w j) → k ≡ suc j → m < j) → n < k
found_size b o true v k zero e h p f ih = p
found_size b o true v k (suc n) e h p f ih =
    let f1 : b ≡ v = ap value_of f in
    absurd (omega (arith, ltb-true b 128 e, rw (pow-suc 128 n) at h, one_le n))
  where
    one_le : (n : ℕ) → 1 ≤ 128 ^ n
    one_le zero = omega arith
    one_le (suc n) = rw (pow-suc 128 n) (omega (arith, one_le n))
found_size b None false v k n e h p f ih = let z : ◌≡◌ {A = ℕ} 0 1 = cc in absurd (omega arith)
found_size b (Some q) false v k zero e h p f ih = p
found_size b (Some q) false v k (suc n) e h p f ih =
    let f1 : b % 128 + 128 * q.value ≡ v = ap value_of f in
    let f2 : suc q.size ≡ k = ap size_of f in
    omega (arith, ih q.value q.size n refl (omega arith) refl (sym f2))

more_than : (l : List ℕ) (v k n : ℕ) → 128 ^ n ≤ v → uleb128 l ≡ Some (claims.leb_number v k) → n < k
unfolding uleb128
more_than [] v k n h e = let z : ◌≡◌ {A = ℕ} 0 1 = cc in absurd (omega arith)
more_than (b ∷ l) v k n h e =
    found_size b (uleb128 l) (ltb b 128) v k n refl h (size_pos (b ∷ l) (claims.leb_number v k) e) e
    (λ w j m is half o next. more_than l w j m (omega (arith, pow-suc 128 m, ap (λ x. 128 ^ x) is)) o)

-- how many chunks there are says how large the number is
filled : (n x : ℕ) → (length (chunks n x) ≡ 1) ⊎ ((j : ℕ) × (length (chunks n x) ≡ suc (suc j)) × (128 ^ suc j ≤ x))
unfolding chunks
filled zero x = inl refl
filled (suc n) x =
    ⊎_elim
    (λ (y : x < 128). inl (rw (lt-ltb x 128 y)))
    (λ (y : 128 ≤ x). inr (rw (le-ltb x 128 y) (next (filled n (x / 128)) y)))
    (lt_or_ge x 128)
  where
    next : (length (chunks n (x / 128)) ≡ 1) ⊎ ((j : ℕ) × (length (chunks n (x / 128)) ≡ suc (suc j)) × (128 ^ suc j ≤ x / 128)) → 128 ≤ x
        → (j : ℕ) × (suc (length (chunks n (x / 128))) ≡ suc (suc j)) × (128 ^ suc j ≤ x)
    next (inl is) y = (0, ap suc is, omega (arith, pow-suc 128 0))
    next (inr (j, is, big)) y = (suc j, ap suc is, omega (arith, pow-suc 128 (suc j)))

least_chunks : (n x : ℕ) (l : List ℕ) (k : ℕ) → x < 128 ^ suc n → uleb128 l ≡ Some (claims.leb_number x k) → length (chunks n x) ≤ k
least_chunks n x l k h e = go (length (chunks n x)) (filled n x)
  where
    go : (m : ℕ) → ((m ≡ 1) ⊎ ((j : ℕ) × (m ≡ suc (suc j)) × (128 ^ suc j ≤ x))) → m ≤ k
    go m (inl is) = omega (arith, size_pos l (claims.leb_number x k) e)
    go m (inr (j, is, big)) = omega (arith, more_than l x k (suc j) big e)

-- ---- the claims

pub written_shortest : claims.WrittenShortest
unfolding encoded
written_shortest x h = record {
  back = λ rest. back 4 x rest (omega arith);
  eight_bits = chunk_bits 4 x (omega arith);
  least = λ bytes k e. least_chunks 4 x bytes k (omega arith) e;
}

pub read_back : claims.ReadBack
read_back x rest h = rw ((written_shortest x h).back rest, le-leb (length (encoded x)) 5 (encoded_size x), lt-ltb x (2 ^ 32) h)

accepted : (o : Option Leb) (v k : ℕ) → (limited o ≡ Some (claims.leb_number v k))
    ↔ ((o ≡ Some (claims.leb_number v k)) × (k ≤ 5) × (v < 2 ^ 32))
accepted None v k = (λ e. let z : ◌≡◌ {A = ℕ} 0 1 = cc in absurd (omega arith), λ p. p.0)
accepted (Some r) v k = (to (leb r.size 5 && ltb r.value (2 ^ 32)) refl, from)
  where
    to : (t : Bool) → leb r.size 5 && ltb r.value (2 ^ 32) ≡ t → cond t (Some r) None ≡ Some (claims.leb_number v k)
        → (Some r ≡ Some (claims.leb_number v k)) × (k ≤ 5) × (v < 2 ^ 32)
    to true e f =
        let is1 : r.value ≡ v = ap value_of f in
        let is2 : r.size ≡ k = ap size_of f in (
          f,
          omega (arith, leb-true r.size 5 (and_left (leb r.size 5) (ltb r.value (2 ^ 32)) e)),
          omega (arith, ltb-true r.value (2 ^ 32) (and_right (leb r.size 5) (ltb r.value (2 ^ 32)) e)),
        )
    to false e f = let z : ◌≡◌ {A = ℕ} 0 1 = cc in absurd (omega arith)

    from : (Some r ≡ Some (claims.leb_number v k)) × (k ≤ 5) × (v < 2 ^ 32) → limited (Some r) ≡ Some (claims.leb_number v k)
    from (f, g, h) = ap limited f ∙ rw (le-leb k 5 g, lt-ltb v (2 ^ 32) h)

pub accepted_exactly : claims.AcceptedExactly
accepted_exactly bytes v k = accepted (uleb128 bytes) v k

-- the number that was stored after p is read there, and the reader is past it
pub stored_after : (p : List ℕ) (x : ℕ) (rest : List ℕ) → x < 2 ^ 32
    → decoded_at (p ++ (encoded x ++ rest)) (length p)
    ≡ Some (record { value = x; next = record { at = length p + length (encoded x) } })
stored_after p x rest h =
    sym (value (length p) _ x (length (encoded x)) x _
    (ap uleb128 (drop-append_seam p (encoded x ++ rest)) ∙ (written_shortest x h).back rest) (encoded_size x) h refl refl)
