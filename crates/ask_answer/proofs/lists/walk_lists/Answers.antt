use Rattle.ask_answer.proofs.Walked.{lists_walked}
use Rattle.ask_answer.proofs.lists.walk_lists.Goals as goal

pub returns : goal.returns
returns c = lists_walked _ c.args.rule c.args.names.now c.requires.1 c.open_lists.ensures c.walk.ensures
