use Rattle.ask_walk.proofs.Here.{starts_told}
use Rattle.ask_walk.proofs.document.document_starts.Goals as goal

pub returns : goal.returns
returns c own ns taken stand =
    starts_told _ _ c.args.slot.now _ _ own ns stand c.open_names.ensures taken c.requires.1 c.starts_here.ensures
