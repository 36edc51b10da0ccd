use lib.ListN.{length}
use mathlib.Core.Path.{◌≡◌}
use Rattle.read_terms.proofs.SideBySide.{FilledTo}
use Rattle.read_terms.proofs.together.spread.Given as goal

abbrev pub invariant-loop-k : goal.invariant-loop-k
invariant-loop-k l =
    (length l.start ≡ 128) × (length l.end ≡ 128) × (length l.df ≡ 128) × FilledTo (λ t. t.start) l.lists l.k l.start
    × FilledTo (λ t. t.end) l.lists l.k l.end × FilledTo (λ t. t.df) l.lists l.k l.df
