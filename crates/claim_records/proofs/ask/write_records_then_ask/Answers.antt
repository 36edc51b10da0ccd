use Rattle.claim_records.proofs.Demands.{asked_between}
use Rattle.claim_records.proofs.ask.write_records_then_ask.Goals as goal

pub returns : goal.returns
returns c =
    asked_between c.args.documents.now c.args.ids.now c.args.lengths.now c.args.text.now c.args.ends.now c.args.posting_counts.now
    c.args.posting_ids.now c.args.position_counts.now c.args.positions.now c.exchange.ensures c.exchange-2.ensures
    c.exchange.auto.documents c.ask_apart-asked.ensures
