use native.Mathlib.Omega.{arith}
use Rattle.write_checks.proofs.Checking.{documents_start, documents_next, documents_stop, documents_end}
use Rattle.write_checks.proofs.check.check_document_lengths.Goals as goal

pub loop-i-init : goal.loop-i-init
loop-i-init c = documents_start c.args.ids.now c.args.lengths.now c.requires

pub returns-then-ids-i : goal.returns-then-ids-i
returns-then-ids-i c =
    documents_stop c.args.ids.now c.args.lengths.now c.requires c.loop-i.i _ c.loop-i.invariant c.loop-i-test.true c.if-ids-i.true

pub loop-i-preserved : goal.loop-i-preserved
loop-i-preserved c =
    documents_next c.args.ids.now c.args.lengths.now c.requires c.loop-i.i _ c.loop-i.invariant _ (omega arith)
    c.loop-i-test.true c.if-ids-i.false

pub returns : goal.returns
returns c = documents_end c.args.ids.now c.args.lengths.now c.requires _ _ c.loop-i.invariant c.loop-i-test.false
