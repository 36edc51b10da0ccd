use native.Mathlib.Omega.{arith}
use Rattle.show_columns.proofs.Names.{first_few, name_size}
use Rattle.show_columns.proofs.put.name_len.Goals as goal

pub overflow_sub-result : goal.overflow_sub-result
overflow_sub-result c = omega (arith, first_few _ _ c.first_characters-first.ensures)

pub overflow_add-result : goal.overflow_add-result
overflow_add-result c = omega (arith, first_few _ _ c.first_characters-first.ensures)

pub returns : goal.returns
returns c = omega (arith, name_size _ _ c.first_characters-first.ensures)
