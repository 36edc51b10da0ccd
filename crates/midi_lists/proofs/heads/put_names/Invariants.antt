-- The names of the sounds from the note on are left to be stored.
use mathlib.Core.List.{List, map}
use Prim.Native.Nat.{ℕ}
use Rattle.common.specs.Lists.{joined}
use Rattle.midi_bars.specs.Bars.{name_of}
use Rattle.midi_lists.specs.Heads.{heard}
use Rattle.midi_lists.proofs.Heard.{heard_from}
use Rattle.midi_lists.proofs.Filled.{Filling}
use Rattle.midi_lists.proofs.heads.put_names.Given as goal

abbrev pub names : List ℕ → List ℕ
names ns = joined (map name_of ns)

abbrev pub invariant-loop-note : goal.invariant-loop-note
invariant-loop-note l =
    Filling (names (heard l.postings)) l.initial.text (names (heard_from l.postings l.note)) l.at l.text
