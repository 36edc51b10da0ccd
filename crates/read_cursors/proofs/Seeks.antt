-- A cursor that advances through its list: what all cursors share, over any element with a key.
-- Assumes nothing.
use Prim.Native.Nat.{ℕ, suc, ◌+◌, ◌≤◌, ◌<◌}
use mathlib.Core.Path.{◌≡◌, refl, ap, ◌∙◌}
use mathlib.Core.List.{List, [], ◌∷◌}
use mathlib.Core.Bool.{Bool, true, false, cond}
use native.Mathlib.Omega.{arith}
use lib.Dec.{ltb}
use lib.ListN.{length}
use borrow.Author.Tests.{lt-ltb, le-ltb, ltb-true}
use Rattle.read_cursors.specs.Held.{rest_of, seek_in}

-- what is ahead of a cursor: nothing if none remains, else first an element with the key that the cursor holds
pub data Ahead {A : Type 0} (key : A → ℕ) (k : ℕ) : ℕ → List A → Type 0 where
  none : Ahead key k 0 []
  one : {x : A} {xs : List A} {n : ℕ} → key x ≡ k → Ahead key k (suc n) (x ∷ xs)

module _ {A : Type 0} {key : A → ℕ} where
  stop : (target : ℕ) {k remaining : ℕ} {l : List A} → Ahead key k remaining l → target ≤ k → l ≡ seek_in key target l
  stop target none h = refl
  stop target (one {x} e) h = rw (le-ltb (key x) target (omega arith))

  end : (target : ℕ) {k remaining : ℕ} {l : List A} → Ahead key k remaining l → remaining ≤ 0 → l ≡ seek_in key target l
  end target none h = refl
  end target (one e) h = absurd (omega arith)

  next : (target : ℕ) {k remaining : ℕ} {l : List A} → Ahead key k remaining l → k < target
      → seek_in key target (rest_of l) ≡ seek_in key target l
  next target none h = refl
  next target (one {x} e) h = rw (lt-ltb (key x) target (omega arith))

  -- a turn of a loop that seeks
  module _ (target : ℕ) {k remaining : ℕ} {l whole : List A} (a : Ahead key k remaining l) (inv : seek_in key target l ≡ whole) where
    pub seek_stop : target ≤ k → l ≡ whole
    seek_stop h = stop target a h ∙ inv

    pub seek_end : remaining ≤ 0 → l ≡ whole
    seek_end h = end target a h ∙ inv

    pub seek_next : {more : List A} → k < target → more ≡ rest_of l → seek_in key target more ≡ whole
    seek_next h e = ap (seek_in key target) e ∙ next target a h ∙ inv

  pub rest_none : {k remaining : ℕ} {l : List A} → Ahead key k remaining l → remaining ≡ 0 → l ≡ rest_of l
  rest_none none e = refl
  rest_none (one u) e = absurd (omega arith)

  pub rest_length : {k remaining : ℕ} {l : List A} → Ahead key k remaining l → 0 < remaining → length l ≡ length (rest_of l) + 1
  rest_length none h = absurd (omega arith)
  rest_length (one e) h = omega arith

module _ {A : Type 0} (key : A → ℕ) where
  pub seek_length : (target : ℕ) (l : List A) → length (seek_in key target l) ≤ length l
  seek_length target [] = omega arith
  seek_length target (x ∷ l) = go (ltb (key x) target) (seek_length target l)
    where
      go : (t : Bool) → length (seek_in key target l) ≤ length l → length (cond t (seek_in key target l) (x ∷ l)) ≤ suc (length l)
      go true h = omega arith
      go false h = omega arith

  pub seek_twice : (a b : ℕ) (l : List A) → a ≤ b → seek_in key b (seek_in key a l) ≡ seek_in key b l
  seek_twice a b [] h = refl
  seek_twice a b (x ∷ l) h = go (ltb (key x) a) refl (seek_twice a b l h)
    where
      go : (t : Bool) → ltb (key x) a ≡ t → seek_in key b (seek_in key a l) ≡ seek_in key b l
          → seek_in key b (cond t (seek_in key a l) (x ∷ l)) ≡ seek_in key b (x ∷ l)
      go true e ih = rw (lt-ltb (key x) b (omega (arith, ltb-true (key x) a e))) ih
      go false e ih = refl
