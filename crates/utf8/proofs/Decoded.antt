-- Decoding, a character at a time: its value has the octets that were read, and the rest is decoded behind them.
-- Assumes nothing.
use mathlib.Core.Path.{◌≡◌, refl, sym, ap, ap₂, ◌∙◌}
use mathlib.Core.List.{List, [], ◌∷◌, ◌++◌, append_assoc}
use mathlib.Core.Logic.{⊎_elim, inl, inr}
use Prim.Native.Nat.{ℕ, zero, suc, ◌+◌, ◌-◌, ◌*◌, ◌/◌, ◌≤◌, ◌<◌}
use native.Mathlib.Omega.{arith}
use lib.ListN.{length, take, drop, length-append, length-take, take-append-drop}
use lib.Seq.{take_at, take-nil, drop-drop, take-append_seam, drop-append_seam}
use Rattle.utf8.specs.Utf8.{Scalar, Scalars, octets, text, IsUtf8, sequences, starts, first_of, char_length, value, value_then}
use Rattle.utf8.specs.Utf8.{decoded_from, decoded}
use Rattle.utf8.specs.Claims as claims
use Rattle.common.proofs.Loops.{lt_or_ge, left_suc, left_none}
use Rattle.utf8.proofs.Text.{octets1, octets2, octets3, octets4, octets_width, octets_length, Taken, rows}

-- ---- one character

value_octets : (v : ℕ) → value (octets v) ≡ v
unfolding value
value_octets v =
    ⊎_elim
    (λ (h : v < 0x80). rw (octets1 v (omega arith)))
    (λ (h : 0x80 ≤ v).
    ⊎_elim
    (λ (k : v < 0x800). rw (octets2 v h (omega arith)) (omega arith))
    (λ (k : 0x800 ≤ v).
    ⊎_elim
    (λ (m : v < 0x10000). rw (octets3 v k (omega arith)) (omega arith))
    (λ (m : 0x10000 ≤ v).
    let two : v / 4096 ≡ v / 64 / 64 = omega arith in
    let three : v / 262144 ≡ v / 4096 / 64 = omega arith in
    rw (octets4 v m) (omega (arith, two, three)))
    (lt_or_ge v 0x10000))
    (lt_or_ge v 0x800))
    (lt_or_ge v 0x80)

pub octets_least : (v : ℕ) → 0 < length (octets v)
octets_least v = omega (arith, octets_width v [])

pub octets_most : (v : ℕ) → length (octets v) ≤ 4
octets_most v = omega (arith, octets_width v [])

-- the k octets with which a list starts are those of their value
record Character (l : List ℕ) (k : ℕ) : Type 0 where
  scalar : Scalar (value (take k l))
  same : octets (value (take k l)) ≡ take k l
  size : length (octets (value (take k l))) ≡ k

character : (l : List ℕ) (k : ℕ) → 0 < k → char_length l ≡ k → Character l k
unfolding char_length
character l k h e = of (rw e at (rows.first l))
  where
    of : Taken 0 l k → Character l k
    of (inl (z, none)) = absurd (omega arith)
    of (inr x) =
        let front : take k l ≡ octets x.value = ap (take k) x.encoded ∙ take_at (octets x.value) x.rest k x.size in
        let is : value (take k l) ≡ x.value = ap value front ∙ value_octets x.value in
        record { scalar = rw is x.scalar; same = ap octets is ∙ sym front; size = ap (λ v. length (octets v)) is ∙ x.size }

skip : (k : ℕ) (l : List ℕ) → decoded_from k l ≡ decoded_from 0 (drop k l)
unfolding decoded_from
skip zero l = refl
skip (suc k) [] = refl
skip (suc k) (b ∷ l) = skip k l

nothing_first : (k : ℕ) → char_length [] ≡ suc k → ⊥
nothing_first k e =
    let c = character [] (suc k) (omega arith) e in
    omega (arith, ap length c.same, c.size)

decoded_next : (l : List ℕ) (k : ℕ) → 0 < k → char_length l ≡ k → decoded l ≡ value (take k l) ∷ decoded (drop k l)
unfolding decoded decoded_from
decoded_next l zero h e = absurd (omega arith)
decoded_next [] (suc k) h e = absurd (nothing_first k e)
decoded_next (b ∷ l) (suc k) h e = rw e (ap (λ r. value (take (suc k) (b ∷ l)) ∷ r) (skip k l))

decoded_none : (l : List ℕ) → char_length l ≡ 0 → decoded l ≡ []
unfolding decoded decoded_from
decoded_none [] e = refl
decoded_none (b ∷ l) e = rw e

-- ---- the claims

pub decodes : claims.Decodes
unfolding decoded decoded_from
decodes [] s = refl
decodes (v ∷ vs) (s, ss) =
    decoded_next (octets v ++ text vs) (length (octets v)) (octets_least v) (octets_length v (text vs) s)
    ∙ ap₂ (λ (a : ℕ) (b : List ℕ). a ∷ b)
    (ap value (take-append_seam (octets v) (text vs)) ∙ value_octets v)
    (ap decoded (drop-append_seam (octets v) (text vs)) ∙ decodes vs ss)

-- the octets of the values are the front of the bytes
abbrev Front : (bytes values : List ℕ) → Type 0
Front bytes values = Scalars values × ((rest : List ℕ) × (bytes ≡ text values ++ rest) × (char_length rest ≡ 0))

front_one : (b : ℕ) (l : List ℕ) (n : ℕ) → char_length (b ∷ l) ≡ n → ((k : ℕ) → Front (drop k l) (decoded_from k l))
    → Front (b ∷ l) (value_then n (b ∷ l) (λ k. decoded_from k l))
front_one b l zero e more = (tt, (b ∷ l, refl, e))
front_one b l (suc k) e more =
    let c = character (b ∷ l) (suc k) (omega arith) e in
    let (ss, (rest, is, ends)) = more k in
    let v = value (take (suc k) (b ∷ l)) in (
      (c.scalar, ss),
      (
        rest,
        sym (take-append-drop (suc k) (b ∷ l)) ∙ ap₂ (λ (x y : List ℕ). x ++ y) (sym c.same) is
            ∙ sym (append_assoc (octets v) (text (decoded_from k l)) rest),
        ends,
      ),
    )

front : (k : ℕ) (l : List ℕ) → Front (drop k l) (decoded_from k l)
unfolding decoded_from char_length first_of sequences starts
front zero [] = (tt, ([], refl, refl))
front (suc k) [] = (tt, ([], refl, refl))
front zero (b ∷ l) = front_one b l (char_length (b ∷ l)) refl (λ k. front k l)
front (suc k) (b ∷ l) = front k l

pub decodes_front : claims.DecodesFront
unfolding decoded
decodes_front bytes = front 0 bytes

-- ---- the first characters

pub text_append : (a b : List ℕ) → text (a ++ b) ≡ text a ++ text b
text_append [] b = refl
text_append (v ∷ a) b = ap (λ r. octets v ++ r) (text_append a b) ∙ sym (append_assoc (octets v) (text a) (text b))

pub scalars_append : (a b : List ℕ) → Scalars a → Scalars b → Scalars (a ++ b)
scalars_append [] b s t = t
scalars_append (v ∷ a) b (s, ss) t = (s, scalars_append a b ss t)

pub scalars_take : (n : ℕ) (vs : List ℕ) → Scalars vs → Scalars (take n vs)
scalars_take zero vs ss = tt
scalars_take (suc n) [] ss = tt
scalars_take (suc n) (v ∷ vs) (s, ss) = (s, scalars_take n vs ss)

-- texts one behind the other, and a character of one octet in front
pub is_utf8_append : (a b : List ℕ) → IsUtf8 a → IsUtf8 b → IsUtf8 (a ++ b)
is_utf8_append a b s t = record {
  values = s.values ++ t.values;
  scalars = scalars_append s.values t.values s.scalars t.scalars;
  encoded = ap₂ (λ (x y : List ℕ). x ++ y) s.encoded t.encoded ∙ sym (text_append s.values t.values);
}

pub is_utf8_cons : (c : ℕ) (l : List ℕ) → c < 0x80 → IsUtf8 l → IsUtf8 (c ∷ l)
is_utf8_cons c l h t = record {
  values = c ∷ t.values;
  scalars = (inl (omega arith), t.scalars);
  encoded = rw (octets1 c (omega arith)) (ap (λ r. c ∷ r) t.encoded);
}

pub text_least : (vs : List ℕ) → length vs ≤ length (text vs)
text_least [] = omega arith
text_least (v ∷ vs) = omega (arith, octets_least v, text_least vs, length-append (octets v) (text vs))

pub text_most : (vs : List ℕ) → length (text vs) ≤ 4 * length vs
text_most [] = omega arith
text_most (v ∷ vs) = omega (arith, octets_most v, text_most vs, length-append (octets v) (text vs))

module _ (most : ℕ) (bytes : List ℕ) where
  abbrev pub first_octets : List ℕ
  first_octets = text (take most (decoded bytes))

  pub prefix_is : take (length first_octets) bytes ≡ first_octets
  prefix_is =
      let d = decoded bytes in
      let (scalars, (rest, is, ends)) = decodes_front bytes in
      let parts : text d ≡ first_octets ++ text (drop most d) =
      ap text (sym (take-append-drop most d)) ∙ text_append (take most d) (drop most d) in
      let whole : bytes ≡ first_octets ++ (text (drop most d) ++ rest) =
      is ∙ ap (λ t. t ++ rest) parts ∙ append_assoc first_octets (text (drop most d)) rest in
      ap (take (length first_octets)) whole ∙ take-append_seam first_octets (text (drop most d) ++ rest)

  pub prefix_le : length first_octets ≤ length bytes
  prefix_le = omega (arith, ap length prefix_is, length-take (length first_octets) bytes)

-- what is left of the first characters from a place on: nothing once there are enough
pub left_end : (s : List ℕ) (at most i : ℕ) → most ≤ i → take (most - i) (decoded (drop at s)) ≡ []
left_end s at most i h = rw (left_none most i h)

-- at a place, from the answer k for the character's length
module _ (s : List ℕ) (at : ℕ) {k : ℕ} (is : k ≡ char_length (drop at s)) (most i : ℕ) where
  abbrev left : ℕ → ℕ → List ℕ
  left place n = take (most - n) (decoded (drop place s))

  pub left_stop : k ≡ 0 → left at i ≡ []
  left_stop e = ap (take (most - i)) (decoded_none (drop at s) (sym is ∙ e)) ∙ take-nil (most - i)

  module _ (more : 0 < k) (h : i < most) where
    left_cons : left at i ≡ value (take k (drop at s)) ∷ left (at + k) (i + 1)
    left_cons =
        ap₂ (λ (n : ℕ) (l : List ℕ). take n l)
        (left_suc most i h)
        (decoded_next (drop at s) k more (sym is)
        ∙ ap (λ l. value (take k (drop at s)) ∷ decoded l) (drop-drop k at s))

    pub left_characters : length (left at i) ≡ suc (length (left (at + k) (i + 1)))
    left_characters = ap length left_cons

    pub left_octets : length (text (left at i)) ≡ k + length (text (left (at + k) (i + 1)))
    left_octets =
        let c = character (drop at s) k more (sym is) in
        let first = octets (value (take k (drop at s))) in
        ap (λ l. length (text l)) left_cons ∙ length-append first (text (left (at + k) (i + 1)))
        ∙ ap (λ n. n + length (text (left (at + k) (i + 1)))) c.size
