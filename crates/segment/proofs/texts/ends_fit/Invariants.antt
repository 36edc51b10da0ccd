-- What is left of the ends, from the last one taken on, fits exactly when all do.
use mathlib.Core.Path.{◌≡◌}
use lib.ListN.{drop}
use Rattle.segment.specs.Texts.{ends_fit}
use Rattle.segment.proofs.texts.ends_fit.Given as goal

abbrev pub invariant-loop-end : goal.invariant-loop-end
invariant-loop-end l = ends_fit l.from (drop l.end-index l.ends) l.n ≡ ends_fit 0 l.ends l.n
