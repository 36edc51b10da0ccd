-- Nested lists laid flat have the shape that the writer asks for.
-- Assumes nothing.
use mathlib.Core.Path.{◌≡◌, refl, sym, ap, ◌∙◌}
use mathlib.Core.Bool.{true}
use mathlib.Core.List.{List, [], ◌∷◌, map}
use Prim.Native.Nat.{ℕ, suc, ◌+◌}
use native.Mathlib.Nat.{zero-add}
use native.Mathlib.Omega.{arith}
use lib.ListN.{length, length-map, length-append}
use borrow.Author.Tests.{le-leb, eq-eqb}
use Rattle.segment.specs.Records.{Posting, Term, Given}
use Rattle.segment.specs.Texts.{ends_fit}
use Rattle.segment.proofs.Shapes.{shape_is}
use Rattle.calls.specs.Given.{ends_from, laid_flat}
use Rattle.common.specs.Lists.{joined}
use Rattle.calls.specs.Acceptance.{Shape}
use Rattle.calls.proofs.Unflat.{total_joined}

ends_fitting : (from : ℕ) (ns : List (List ℕ)) → ends_fit from (ends_from from ns) (from + length (joined ns)) ≡ true
unfolding ends_fit
ends_fitting from [] = eq-eqb from (from + 0) (omega arith)
ends_fitting from (n ∷ ns) =
    let e : from + length (joined (n ∷ ns)) ≡ from + length n + length (joined ns) = rw (length-append n (joined ns)) (omega arith) in
    rw (e, le-leb from (from + length n) (omega arith)) (ends_fitting (from + length n) ns)

pub ends_count : (from : ℕ) (ns : List (List ℕ)) → length (ends_from from ns) ≡ length ns
ends_count from [] = refl
ends_count from (n ∷ ns) = ap suc (ends_count (from + length n) ns)

pub flat_shape : (g : Given) → Shape (laid_flat g)
unfolding laid_flat
flat_shape g =
    let ts = g.terms in
    let ps = joined (map (λ (t : Term). t.postings) ts) in
    let ns = map (λ (t : Term). t.name) ts in
    record {
      documents = length-map g.documents (λ d. d.id) ∙ sym (length-map g.documents (λ d. d.len));
      text = (shape_is (joined ns) (ends_from 0 ns)).0 (rw zero-add at (ends_fitting 0 ns));
      terms = length-map ts (λ t. length t.postings) ∙ sym (ends_count 0 ns ∙ length-map ts (λ t. t.name));
      postings = total_joined (λ (t : Term). t.postings) ts ∙ sym (length-map ps (λ p. p.doc));
      counts = length-map ps (λ p. length p.positions) ∙ sym (length-map ps (λ p. p.doc));
      positions = total_joined (λ (p : Posting). p.positions) ps;
    }
