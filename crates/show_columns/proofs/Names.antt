-- A name's column as the code stores it: the bytes of the first characters as they print, then spaces.
-- Assumes nothing.
use mathlib.Core.Path.{◌≡◌, refl, sym, ap, ap₂, ◌∙◌}
use mathlib.Core.List.{List, [], ◌∷◌, ◌++◌, map, map-append, append_assoc}
use mathlib.Core.Bool.{Bool, true, false, cond, ◌||◌}
use mathlib.Core.Logic.{⊎_elim}
use Prim.Native.Nat.{ℕ, ◌+◌, ◌-◌, ◌*◌, ◌≤◌, ◌<◌}
use native.Mathlib.Omega.{arith}
use lib.Dec.{ltb, eqb}
use lib.ListN.{length, take, drop, get_or, replicate, length-append, length-map, length-take, length-replicate, get_or-map}
use lib.Seq.{length-take-le, drop-drop, sets-eq}
use borrow.Rule.Slice.PartMut.{put_mid}
use Rattle.common.specs.Stores.{Stored}
use borrow.Author.Tests.{le-ltb, ne_eqb}
use Rattle.common.proofs.Loops.{lt_or_ge, drop_step}
use Rattle.utf8.specs.Utf8.{octets, text, decoded}
use Rattle.utf8.specs.declared.prefix.Prefix.{Prefix}
use Rattle.utf8.specs.Promise.{IsPrefix}
use Rattle.utf8.proofs.Text.{octets1, octets2, octets3, octets4}
use Rattle.utf8.proofs.Decoded.{text_append, text_least, text_most, prefix_is, prefix_le}
use Rattle.calls.specs.Listing.{shown, fitted, name_column}
use Rattle.calls.proofs.Characters.{text_spaces, fitted_length}

-- ---- as it prints, by bytes and by characters

high : (b : ℕ) → 0x80 ≤ b → shown b ≡ b
high b h = rw (le-ltb b 32 (omega arith), ne_eqb b 127 (λ e. omega arith))

low : (c : ℕ) → c ≤ 0x7F → shown c ≤ 0x7F
low c h = pick (ltb c 32 || eqb c 127)
  where
    pick : (t : Bool) → cond t 63 c ≤ 0x7F
    pick true = omega arith
    pick false = h

two_high : (a b : ℕ) → 0x80 ≤ a → 0x80 ≤ b → map shown (a ∷ b ∷ []) ≡ a ∷ b ∷ []
two_high a b h k = ap₂ (λ (x y : ℕ). x ∷ y ∷ []) (high a h) (high b k)

shown_octets : (v : ℕ) → map shown (octets v) ≡ octets (shown v)
shown_octets v =
    ⊎_elim
    (λ (h : v < 0x80). rw (octets1 v (omega arith)) (sym (octets1 (shown v) (low v (omega arith)))))
    (λ (h : 0x80 ≤ v).
    ⊎_elim
    (λ (k : v < 0x800).
    rw (high v h, octets2 v h (omega arith)) (two_high _ _ (omega arith) (omega arith)))
    (λ (k : 0x800 ≤ v).
    ⊎_elim
    (λ (m : v < 0x10000).
    rw (high v h, octets3 v k (omega arith))
    (ap₂ (λ (x : ℕ) (l : List ℕ). x ∷ l) (high _ (omega arith)) (two_high _ _ (omega arith) (omega arith))))
    (λ (m : 0x10000 ≤ v).
    rw (high v h, octets4 v m)
    (ap₂ (λ (l r : List ℕ). l ++ r) (two_high _ _ (omega arith) (omega arith)) (two_high _ _ (omega arith) (omega arith))))
    (lt_or_ge v 0x10000))
    (lt_or_ge v 0x800))
    (lt_or_ge v 0x80)

shown_text : (vs : List ℕ) → map shown (text vs) ≡ text (map shown vs)
shown_text [] = refl
shown_text (v ∷ vs) =
    map-append shown (octets v) (text vs) ∙ ap₂ (λ (l r : List ℕ). l ++ r) (shown_octets v) (shown_text vs)

-- ---- one byte at a time

-- of the first n
module _ (s : List ℕ) (n : ℕ) (inside : n ≤ length s) where
  pub shown_size : length (map shown (take n s)) ≡ n
  shown_size = length-map (take n s) shown ∙ length-take-le n s inside

pub shown_step : (s : List ℕ) (i : ℕ) → i < length s → drop i (map shown s) ≡ shown (get_or s i 0) ∷ drop (i + 1) (map shown s)
shown_step s i h =
    drop_step (map shown s) i (shown 0) (omega (arith, length-map s shown))
    ∙ ap (λ b. b ∷ drop (i + 1) (map shown s)) (get_or-map shown s i 0)

-- ---- a part of the slice that is written over

pub part_stored : {ys l : List ℕ} {at k : ℕ} → length ys ≡ k → at + k ≤ length l → Stored ys at l (at + k) (put_mid at k l ys)
part_stored {ys} {l} {at} {k} e h =
    let n : at + length ys ≡ at + k = ap (λ (i : ℕ). at + i) e in
    record {
      past = sym n;
      left =
          ap (λ (r : List ℕ). take at l ++ (ys ++ r)) (drop-drop k at l ∙ ap (λ (i : ℕ). drop i l) (sym n))
          ∙ sym (append_assoc (take at l) ys (drop (at + length ys) l)) ∙ sym (sets-eq ys l at (omega arith));
    }

-- ---- from what is known of the first characters

module _ (width : ℕ) (name : List ℕ) {p : Prefix} (is : IsPrefix name width p) where
  pub first_inside : p.octets ≤ length name
  first_inside = omega (arith, is.octets, prefix_le width name)

  pub first_few : (p.characters ≤ width) × (p.characters ≤ p.octets) × (p.octets ≤ 4 * p.characters)
  first_few =
      let first = take width (decoded name) in
      omega (arith, is.octets, is.characters, length-take width (decoded name), text_least first, text_most first)

  pub name_parts : name_column width name ≡ map shown (take p.octets name) ++ replicate (width - p.characters) 32
  unfolding name_column
  name_parts =
      let d = decoded name in
      let cut : take p.octets name ≡ text (take width d) = ap (λ n. take n name) is.octets ∙ prefix_is width name in
      let few : width - length d ≡ width - p.characters = omega (arith, is.characters, length-take width d) in
      text_append (map shown (take width d)) (replicate (width - length d) 32)
      ∙ ap₂ (λ (l r : List ℕ). l ++ r)
      (sym (shown_text (take width d)) ∙ ap (map shown) (sym cut))
      (text_spaces (width - length d) ∙ ap (λ n. replicate n 32) few)

  pub name_size : length (name_column width name) ≡ p.octets + (width - p.characters)
  name_size =
      let printed = map shown (take p.octets name) in
      let blank : List ℕ = replicate (width - p.characters) 32 in
      omega (
        arith,
        ap length name_parts,
        length-append printed blank,
        shown_size name p.octets first_inside,
        length-replicate {0} {A = ℕ} (width - p.characters) 32,
      )

-- a column is never longer than four bytes for each character
pub name_most : (width : ℕ) (name : List ℕ) → length (name_column width name) ≤ 4 * width
unfolding name_column
name_most width name =
    omega (arith, text_most (fitted width (decoded name)), fitted_length width (decoded name))
