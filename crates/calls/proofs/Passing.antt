-- The checks pass exactly where document 01 names no refusal but for the room.
-- Assumes nothing.
use Rattle.std.specs.Prelude.{None, Ok}
use mathlib.Core.Path.{◌≡◌}
use mathlib.Core.Bool.{true}
use borrow.Author.Tests.{leb-true, le-leb, eqb-true, eq-eqb}
use Rattle.common.proofs.Loops.{and_left, and_right}
use Rattle.calls.specs.Given.{Lists, given}
use Rattle.calls.specs.Checks.{small, shaped, check_documents, check_given, check_lists}
use Rattle.calls.specs.Acceptance.{Small, Shape, ListsFine}
use Rattle.calls.specs.Claims.{ChecksExactly}
use Rattle.segment.proofs.Binds.{bind_gives}
use Rattle.segment.proofs.Accepted.{check_gives}
use Rattle.segment.proofs.Shapes.{shape_is}
use Rattle.calls.proofs.Accepted.{documents_give, documents_from, terms_give, terms_from}

pub small_gives : (l : Lists) → small l ≡ true → Small l
unfolding small
small_gives l t = record {
  ids = leb-true _ _ (search (and_left, and_right) depth 9);
  lengths = leb-true _ _ (search (and_left, and_right) depth 9);
  text = leb-true _ _ (search (and_left, and_right) depth 9);
  ends = leb-true _ _ (search (and_left, and_right) depth 9);
  posting_counts = leb-true _ _ (search (and_left, and_right) depth 9);
  posting_ids = leb-true _ _ (search (and_left, and_right) depth 9);
  position_counts = leb-true _ _ (search (and_left, and_right) depth 9);
  positions = leb-true _ _ (search (and_left, and_right) depth 9);
}

pub small_from : (l : Lists) → Small l → small l ≡ true
unfolding small
small_from l s =
    rw (
      le-leb _ _ s.ids,
      le-leb _ _ s.lengths,
      le-leb _ _ s.text,
      le-leb _ _ s.ends,
      le-leb _ _ s.posting_counts,
      le-leb _ _ s.posting_ids,
      le-leb _ _ s.position_counts,
      le-leb _ _ s.positions,
    )

pub shaped_gives : (l : Lists) → shaped l ≡ true → Shape l
unfolding shaped
shaped_gives l t = record {
  documents = eqb-true _ _ (search (and_left, and_right) depth 9);
  text = (shape_is l.text l.ends).0 (search (and_left, and_right) depth 9);
  terms = eqb-true _ _ (search (and_left, and_right) depth 9);
  postings = eqb-true _ _ (search (and_left, and_right) depth 9);
  counts = eqb-true _ _ (search (and_left, and_right) depth 9);
  positions = eqb-true _ _ (search (and_left, and_right) depth 9);
}

pub shaped_from : (l : Lists) → Shape l → shaped l ≡ true
unfolding shaped
shaped_from l s =
    rw (
      eq-eqb _ _ s.documents,
      (shape_is l.text l.ends).1 s.text,
      eq-eqb _ _ s.terms,
      eq-eqb _ _ s.postings,
      eq-eqb _ _ s.counts,
      eq-eqb _ _ s.positions,
    )

-- ---- all checks

gives : (l : Lists) → check_lists l ≡ Ok tt → ListsFine l
unfolding check_lists check_given
gives l e =
    let r₁ = check_gives (small l) _ _ e in
    let r₂ = check_gives (shaped l) _ _ r₁.1 in
    let r₃ = bind_gives (check_documents None (given l).documents) _ r₂.1 in
    let terms = terms_give (given l).documents None (given l).terms r₃.2 in
    record {
      small = small_gives l r₁.0;
      shape = shaped_gives l r₂.0;
      documents_rise = documents_give None (given l).documents r₃.1;
      names_rise = terms.0;
      each = terms.1;
    }

from : (l : Lists) → ListsFine l → check_lists l ≡ Ok tt
unfolding check_lists check_given
from l n =
    rw (
      small_from l n.small,
      shaped_from l n.shape,
      documents_from None (given l).documents n.documents_rise,
      terms_from (given l).documents n.documents_rise None (given l).terms n.names_rise n.each,
    )

pub checks_exactly : ChecksExactly
checks_exactly l = (gives l, from l)
