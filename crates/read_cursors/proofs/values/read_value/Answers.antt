use mathlib.Core.Path.{sym, ◌∙◌}
use Rattle.read_cursors.proofs.Gaps.{value_is}
use Rattle.read_cursors.proofs.values.read_value.Goals as goal

pub returns : goal.returns
returns c = c.read_rising.ensures ∙ sym (value_is _ _ _ _ _)
