-- The checksums while the tables are filled, then all lists side by side.
use mathlib.Core.Path.{sym}
use Rattle.common.proofs.Loops.{true_false}
use Rattle.read_terms.proofs.SideBySide.{decode_entries}
use Rattle.read_terms.proofs.together.entries_decode.Goals as goal

pub returns-then-m-gt128 : goal.returns-then-m-gt128
returns-then-m-gt128 c = λ e. true_false (sym e)

pub returns-then-not-spread_entries : goal.returns-then-not-spread_entries
returns-then-not-spread_entries c = λ e. true_false (sym e)

pub returns : goal.returns
returns c = λ e. decode_entries (c.spread_entries.ensures c.if-not-spread_entries.false) (c.lists_sure.ensures e)
