-- A question passes its tests exactly where it is well-formed.
-- Assumes nothing.
use Rattle.std.specs.Prelude.{Ok}
use mathlib.Core.Path.{◌≡◌, refl}
use mathlib.Core.Bool.{true, ◌&&◌}
use mathlib.Core.List.{List, [], ◌∷◌}
use mathlib.Core.Logic.{inl, inr, ◌↔◌}
use Prim.Native.Nat.{ℕ, ◌≤◌}
use lib.Dec.{leb}
use lib.ListN.{length}
use borrow.Author.Tests.{leb-true, le-leb}
use Rattle.utf8.specs.Utf8.{IsUtf8, utf8}
use Rattle.common.proofs.Loops.{and_left, and_right}
use Rattle.utf8.proofs.Text.{grammar_agrees}
use Rattle.segment.specs.Refusals.{too_large, list_shape, invalid_utf8}
use Rattle.segment.specs.Steps.{checked}
use Rattle.segment.specs.Texts.{ends_fit, names}
use Rattle.common.specs.Elements.{◌∈◌}
use Rattle.calls.specs.Questions.{check_names, check_question, two_checks}
use Rattle.calls.specs.Claims as claims
use Rattle.segment.proofs.Shapes.{shape_is}
use Rattle.segment.proofs.Accepted.{check_gives, passed_ok}

names_each : (ns : List (List ℕ)) → check_names ns ≡ Ok tt → (n : List ℕ) → n ∈ ns → IsUtf8 n
unfolding check_names
names_each [] e n m = absurd m
names_each (k ∷ ks) e n (inl q) = rw q ((grammar_agrees k).0 (check_gives (utf8 k) invalid_utf8 _ e).0)
names_each (k ∷ ks) e n (inr m) = names_each ks (check_gives (utf8 k) invalid_utf8 _ e).1 n m

names_all : (ns : List (List ℕ)) → ((n : List ℕ) → n ∈ ns → IsUtf8 n) → check_names ns ≡ Ok tt
unfolding check_names
names_all [] h = refl
names_all (k ∷ ks) h = rw ((grammar_agrees k).1 (h k (inl refl))) (names_all ks (λ n m. h n (inr m)))

pub names_pass : (ns : List (List ℕ)) → (check_names ns ≡ Ok tt) ↔ ((n : List ℕ) → n ∈ ns → IsUtf8 n)
names_pass ns = (names_each ns, names_all ns)

pub passes_exactly : claims.PassesExactly
unfolding check_question
passes_exactly text ends = (
  λ e.
      let (size, f) = check_gives (leb (length text) 16777216 && leb (length ends) 128) too_large _ e in
      let (shape, g) = check_gives (ends_fit 0 ends (length text)) list_shape _ f in
      record {
        few = leb-true (length ends) 128 (and_right (leb (length text) 16777216) (leb (length ends) 128) size);
        small = leb-true (length text) 16777216 (and_left (leb (length text) 16777216) (leb (length ends) 128) size);
        shape = (shape_is text ends).0 shape;
        each = (names_pass (names 0 ends text)).0 g;
      },
  λ w.
      rw (le-leb (length text) 16777216 w.small, le-leb (length ends) 128 w.few, (shape_is text ends).1 w.shape)
      ((names_pass (names 0 ends text)).1 w.each),
)

pub two_pass_exactly : claims.TwoPassExactly
unfolding two_checks
two_pass_exactly a b = (
  λ e.
      let (size, g) = check_gives (leb (length a) 16777216 && leb (length b) 16777216) too_large _ e in
      let each = (names_pass (a ∷ b ∷ [])).0 g in (
        leb-true (length a) 16777216 (and_left (leb (length a) 16777216) (leb (length b) 16777216) size),
        leb-true (length b) 16777216 (and_right (leb (length a) 16777216) (leb (length b) 16777216) size),
        each a (inl refl),
        each b (inr (inl refl)),
      ),
  λ w.
      rw (le-leb (length a) 16777216 w.0, le-leb (length b) 16777216 w.1)
      ((names_pass (a ∷ b ∷ [])).1 (both w.2 w.3)),
)
  where
    both : IsUtf8 a → IsUtf8 b → (n : List ℕ) → n ∈ (a ∷ b ∷ []) → IsUtf8 n
    both u v n (inl e) = rw e u
    both u v n (inr (inl e)) = rw e v
    both u v n (inr (inr x)) = elim x [ ]

-- what the code goes by behind the checks
pub text_fits : (text ends : List ℕ) → (Ok tt) ≡ checked (check_question text ends)
    → (ends_fit 0 ends (length text) ≡ true) × (length ends ≤ 128)
text_fits text ends passed =
    let w = (passes_exactly text ends).0 (passed_ok (check_question text ends) passed).1 in
    ((shape_is text ends).1 w.shape, w.few)
