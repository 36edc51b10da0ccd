use Rattle.std.proofs.lemmas.Grind.{common_steps}
use Rattle.std.proofs.Common.{rules}
use native.Mathlib.Omega.{arith}
use Rattle.pad_map.specs.Rules.{hit_fine}
use Rattle.pad_words.proofs.check.hit_fine.Goals as goal

pub returns-then-follows : goal.returns-then-follows
unfolding hit_fine
returns-then-follows c = search rules

pub returns-else-follows : goal.returns-else-follows
unfolding hit_fine
returns-else-follows c = grind (arith, common_steps)
