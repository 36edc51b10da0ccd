-- The counts of the sounds from the note on are left to be stored.
use mathlib.Core.List.{List, map}
use Prim.Native.Nat.{ℕ}
use lib.ListN.{get_or}
use Rattle.midi_lists.specs.Heads.{counts_of}
use Rattle.midi_lists.proofs.Heard.{heard_from}
use Rattle.midi_lists.proofs.Filled.{Filling}
use Rattle.midi_lists.proofs.heads.put_counts.Given as goal

abbrev pub counts_in : (postings notes : List ℕ) → List ℕ
counts_in p ns = map (λ n. get_or p n 0) ns

abbrev pub invariant-loop-count : goal.invariant-loop-count
invariant-loop-count l =
    Filling (counts_of l.postings) l.initial.counts (counts_in l.postings (heard_from l.postings l.count-index)) l.at l.counts
