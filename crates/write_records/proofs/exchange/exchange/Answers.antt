use Rattle.std.proofs.Common.{◌≡◌, arith, refl, ◌∙◌}
use Rattle.write_records.specs.Steps.{three}
use Rattle.write_records.proofs.Exchanging.{after, after_more, after_all}
use Rattle.write_records.proofs.exchange.exchange.Goals as goal

pub loop-i-init : goal.loop-i-init
unfolding after
loop-i-init c = refl

pub loop-i-preserved : goal.loop-i-preserved
loop-i-preserved c = after_more c.loop-i.i (three c.args.documents.now c.args.ids.now c.args.lengths.now) _ c.loop-i.invariant

-- the walk ends at the shortest of the three
pub returns : goal.returns
returns c =
    let e : c.loop-i.i ≡ c.shortest-n.result = omega arith in
    c.loop-i.invariant ∙ after_all c.args.documents.now c.args.ids.now c.args.lengths.now c.loop-i.i (rw e c.shortest-n.ensures)
