use Rattle.std.proofs.Common.{rules}
use Rattle.pad_map.specs.Rules.{before}
use Rattle.pad_rules.proofs.order.follows.Goals as goal

pub returns : goal.returns
unfolding before
returns c = search rules
