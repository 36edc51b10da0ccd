use mathlib.Core.Path.{◌∙◌}
use Rattle.segment.proofs.Strings.{pointwise_same}
use Rattle.segment.proofs.names.starts_with.Goals as goal

pub returns : goal.returns
returns c = c.starts_with.ensures.value ∙ pointwise_same _ _
