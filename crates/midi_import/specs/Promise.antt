-- What reading a MIDI file into bars promises.
use Rattle.segment.specs.Results.{Answer}
use Rattle.segment.specs.declared.replies.ListTotals.{ListTotals}
use Rattle.std.specs.Prelude.{ℕ, ◌≡◌, List}
use Rattle.midi_bars.specs.Loudness.{AllLists}
use Rattle.midi_bars.specs.Imports.{import_into, import_answer, import_left}

-- the reply, and the nine lent buffers afterwards
pub record BarsImported (steps quarter : ℕ) (file : List ℕ) (b : AllLists) (r : Answer ListTotals) (b' : AllLists) : Type 0 where
  pub reply : r ≡ import_answer (import_into steps quarter file b)
  pub left : b' ≡ import_left (import_into steps quarter file b) b
