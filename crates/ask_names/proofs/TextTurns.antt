-- The names of a text, one after the other: where each lies, and what testing them in turn comes to.
-- Assumes nothing.
use Rattle.std.specs.Prelude.{Err, Ok}
use mathlib.Core.Path.{◌≡◌, refl}
use mathlib.Core.Bool.{Bool, true, false, ◌&&◌, and-false}
use mathlib.Core.List.{List, [], ◌∷◌}
use mathlib.Core.Logic.{◌⊎◌, inl, inr}
use Prim.Native.Nat.{ℕ, ◌+◌, ◌-◌, ◌≤◌, ◌<◌}
use native.Mathlib.Omega.{arith}
use lib.Dec.{leb}
use lib.ListN.{length, drop, get_or}
use lib.Seq.{drop-drop}
use borrow.Author.Tests.{leb-true, eqb-true, le-leb, lt-leb}
use Rattle.utf8.specs.Utf8.{utf8}
use Rattle.common.proofs.Loops.{drop_step, drop_end, and_left, and_right}
use Rattle.segment.specs.Refusals.{invalid_utf8, list_shape, too_large}
use Rattle.segment.specs.Results.{Answer, ◌>>=◌}
use Rattle.segment.specs.Results as results
use Rattle.segment.specs.Records.{between}
use Rattle.segment.specs.Texts.{ends_fit, names}
use Rattle.calls.specs.Questions.{check_names, check_question, two_checks}

fit_below : (from : ℕ) (ends : List ℕ) (n : ℕ) → ends_fit from ends n ≡ true → from ≤ n
unfolding ends_fit
fit_below from [] n t = omega (arith, eqb-true from n t)
fit_below from (e ∷ es) n t =
    omega (
      arith,
      leb-true from e (and_left (leb from e) (ends_fit e es n) t),
      fit_below e es n (and_right (leb from e) (ends_fit e es n) t),
    )

module _ (text ends : List ℕ) (i from e : ℕ) (fit : ends_fit from (drop i ends) (length text) ≡ true) (h : i < length ends)
    (is : e ≡ get_or ends i 0) where
  turn : leb from e && ends_fit e (drop (i + 1) ends) (length text) ≡ true
  unfolding ends_fit
  turn = rw is (rw (drop_step ends i 0 h) at fit)

  pub name_rises : from ≤ e
  name_rises = leb-true from e (and_left (leb from e) (ends_fit e (drop (i + 1) ends) (length text)) turn)

  pub rest_fits : ends_fit e (drop (i + 1) ends) (length text) ≡ true
  rest_fits = and_right (leb from e) (ends_fit e (drop (i + 1) ends) (length text)) turn

  pub name_ends : e ≤ length text
  name_ends = fit_below e (drop (i + 1) ends) (length text) rest_fits

  -- the name taken in this turn, and those left
  pub turned : names from (drop i ends) (drop from text) ≡ between from e text ∷ names e (drop (i + 1) ends) (drop e text)
  unfolding names
  turned =
      let to : from + (e - from) ≡ e = omega (arith, name_rises) in
      rw (drop_step ends i 0 h, ← is, drop-drop (e - from) from text, to)

  module _ {whole : Answer (Unit {0})} (inv : check_names (names from (drop i ends) (drop from text)) ≡ whole) where
    pub texts_next : utf8 (between from e text) ≡ true → check_names (names e (drop (i + 1) ends) (drop e text)) ≡ whole
    unfolding check_names
    texts_next t = rw (turned, t) at inv

    pub texts_stop : utf8 (between from e text) ≡ false → Err invalid_utf8 ≡ whole
    unfolding check_names
    texts_stop t = rw (turned, t) at inv

pub texts_none : (text ends : List ℕ) (i from : ℕ) → length ends ≤ i → names from (drop i ends) (drop from text) ≡ []
unfolding names
texts_none text ends i from h = rw (drop_end ends i h)

pub texts_end : (text ends : List ℕ) (i from : ℕ) {whole : Answer (Unit {0})}
    → check_names (names from (drop i ends) (drop from text)) ≡ whole → length ends ≤ i → Ok tt ≡ whole
unfolding check_names
texts_end text ends i from inv h = rw (texts_none text ends i from h) at inv

-- ---- the whole question

pub question_large : (text ends : List ℕ) → (16777216 < length text) ⊎ (128 < length ends) → Err too_large ≡ check_question text ends
unfolding check_question
question_large text ends (inl h) = rw (lt-leb (length text) 16777216 h)
question_large text ends (inr h) = rw (lt-leb (length ends) 128 h, and-false (leb (length text) 16777216))

module _ (text ends : List ℕ) (small : length text ≤ 16777216) (few : length ends ≤ 128) where
  pub question_shape : ends_fit 0 ends (length text) ≡ false → Err list_shape ≡ check_question text ends
  unfolding check_question
  question_shape e = rw (le-leb (length text) 16777216 small, le-leb (length ends) 128 few, e)

  pub question_names : ends_fit 0 ends (length text) ≡ true → check_names (names 0 ends text) ≡ check_question text ends
  unfolding check_question
  question_names e = rw (le-leb (length text) 16777216 small, le-leb (length ends) 128 few, e)

-- ---- two names

module _ (a b : List ℕ) where
  pub two_large : (16777216 < length a) ⊎ (16777216 < length b) → Err too_large ≡ two_checks a b
  unfolding two_checks
  two_large (inl h) = rw (lt-leb (length a) 16777216 h)
  two_large (inr h) = rw (lt-leb (length b) 16777216 h, and-false (leb (length a) 16777216))

  module _ (first : length a ≤ 16777216) (second : length b ≤ 16777216) where
    two_small : check_names (a ∷ b ∷ []) ≡ two_checks a b
    unfolding two_checks
    two_small = rw (le-leb (length a) 16777216 first, le-leb (length b) 16777216 second)

    pub two_bytes : (utf8 a ≡ false) ⊎ (utf8 b ≡ false) → Err invalid_utf8 ≡ two_checks a b
    unfolding check_names
    two_bytes (inl e) = rw (← two_small, e)
    two_bytes (inr e) = rw (← two_small, e) (step (utf8 a))
      where
        step : (t : Bool) → ◌≡◌ {A = Answer (Unit {0})} (Err invalid_utf8) (results.check t invalid_utf8 >>= λ _. Err invalid_utf8)
        step true = refl
        step false = refl

    pub two_fine : utf8 a ≡ true → utf8 b ≡ true → Ok tt ≡ two_checks a b
    unfolding check_names
    two_fine e f = rw (← two_small, e, f)
