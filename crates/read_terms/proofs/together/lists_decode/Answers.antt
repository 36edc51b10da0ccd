-- The checksums, then all lists side by side.
use mathlib.Core.Path.{sym}
use Rattle.common.proofs.Loops.{true_false}
use Rattle.read_terms.proofs.SideBySide.{decode_together}
use Rattle.read_terms.proofs.together.lists_decode.Goals as goal

pub returns-then-lists-gt128 : goal.returns-then-lists-gt128
returns-then-lists-gt128 c = λ e. true_false (sym e)

pub returns-then-not-sums_match : goal.returns-then-not-sums_match
returns-then-not-sums_match c = λ e. true_false (sym e)

pub returns : goal.returns
returns c = λ e. decode_together (c.sums_match.ensures c.if-not-sums_match.false) c.spread.ensures (c.lists_sure.ensures e)
