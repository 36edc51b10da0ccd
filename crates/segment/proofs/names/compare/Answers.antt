use mathlib.Core.Path.{◌∙◌}
use Rattle.segment.proofs.Strings.{cmp_order}
use Rattle.segment.proofs.names.compare.Goals as goal

pub returns : goal.returns
returns c = c.cmp.ensures ∙ cmp_order _ _
