use Rattle.write_records.proofs.Entered.{wrote_between}
use Rattle.write_records.proofs.write.write_positional_segment_records.Goals as goal

pub returns : goal.returns
returns c =
    wrote_between c.args.documents.now c.args.ids.now c.args.lengths.now c.args.text.now c.args.ends.now c.args.posting_counts.now
    c.args.posting_ids.now c.args.position_counts.now c.args.positions.now c.exchange.ensures c.exchange-2.ensures
    c.exchange.auto.documents c.write_apart-written.ensures
