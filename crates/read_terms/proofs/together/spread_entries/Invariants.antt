-- The tables so far have the entries so far.
use Prim.Native.Nat.{ℕ, ◌+◌, ◌<◌}
use lib.ListN.{length, get_or}
use mathlib.Core.Path.{◌≡◌}
use Rattle.read_terms.specs.Together.{EntrySpread}
use Rattle.read_terms.proofs.together.spread_entries.Given as goal

abbrev pub invariant-loop-k : goal.invariant-loop-k
invariant-loop-k l =
    (length l.start ≡ 128) × (length l.end ≡ 128) × (length l.df ≡ 128)
    × ((j : ℕ) → j < l.k → EntrySpread l.bytes l.at (l.from + j) (get_or l.start j 0) (get_or l.end j 0) (get_or l.df j 0))
