-- A pass over a file's hits: a state is taken from hit to hit. What every loop over events is.
use Rattle.std.specs.Prelude.{Ok, List, [], ◌∷◌, ℕ, length}
use Rattle.segment.specs.Results.{Answer, ◌>>=◌}
use Rattle.midi_read.specs.declared.track.Reader.{Reader}
use Rattle.midi_read.specs.declared.track.Hit.{Hit}
use Rattle.midi_read.specs.Files.{Grid, hits_from}

abbrev pub over : {S : Type 0} → (S → Hit → S) → S → List Hit → S
over f s [] = s
over f s (h ∷ hs) = over f (f s h) hs

-- from a reader on
abbrev pub walk : {S : Type 0} → (S → Hit → S) → Grid → (file : List ℕ) → Reader → S → Answer S
walk f g file from s = hits_from (length file) g file from >>= (λ hs. Ok (over f s hs))
