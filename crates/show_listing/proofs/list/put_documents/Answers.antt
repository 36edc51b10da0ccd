use Rattle.std.specs.Prelude.{None}
use mathlib.Core.Path.{refl, sym, ap, ◌∙◌}
use native.Mathlib.Omega.{arith}
use lib.ListN.{length}
use lib.Seq.{sets}
use Rattle.read_cursors.specs.Held.{rest_of, held_documents}
use Rattle.read_cursors.specs.Steps.{documents_from}
use Rattle.read_cursors.proofs.DocumentsHeld.{held_rise}
use Rattle.calls.specs.Listing.{document_lines}
use Rattle.common.proofs.Stores.{stored_length, stored_on}
use Rattle.show_listing.proofs.Texts.{past_pair, one_more, no_more, document_lines_next, document_lines_end, document_lines_length}
use Rattle.show_listing.proofs.list.put_documents.Goals as goal

pub loop-c-init : goal.loop-c-init
loop-c-init c = let e = c.start-c.ensures in (rw e, refl, rw e)

pub put_pair-next-requires : goal.put_pair-next-requires
put_pair-next-requires c =
    let l = c.loop-c in
    omega (arith, one_more c.args.meta.now l.c (omega arith))

pub loop-c-smaller : goal.loop-c-smaller
loop-c-smaller c = omega arith

pub loop-c-preserved : goal.loop-c-preserved
loop-c-preserved c =
    let l = c.loop-c in
    let meta = c.args.meta.now in
    let next = c.advance-c.ensures.list in
    let stored = c.put_pair-next.ensures in (
      omega (arith, one_more meta l.c (omega arith), ap length next, past_pair _ _ stored (omega arith) (omega arith)),
      stored_length stored ∙ l.invariant.1,
      rw next (stored_on (document_lines (rest_of (documents_from meta l.c))) stored
          (ap (sets l.out l.next) (sym (document_lines_next meta l.c (omega arith))) ∙ l.invariant.2)),
    )

pub shape_of-out : goal.shape_of-out
shape_of-out c = c.loop-c.invariant.1

pub returns : goal.returns
returns c =
    let l = c.loop-c in
    let a = c.args in
    let meta = a.meta.now in
    let all = document_lines_length 0 (held_documents a.count None meta) (held_rise a.count None meta) in
    record {
      past = omega (arith, no_more meta l.c (omega arith), all);
      left = rw (document_lines_end meta l.c (omega arith)) at l.invariant.2;
    }
