-- Phrases put to what the writer writes for an imported file: exactly the bars in which the file's own notes meet them, and none over a
-- bar line. The files are those of MidiFiles.antt.
use Rattle.std.specs.Prelude.{Ok, ℕ, ◌≡◌, refl, List, [], ◌∷◌, ◌++◌}
use Rattle.segment.specs.Results.{Answer, ◌>>=◌}
use Rattle.rules.specs.declared.rule.Rule.TheVariants.{Phrase}
use Rattle.calls.specs.Writing.{write}
use Rattle.calls.specs.Questions.{search_text}
use Rattle.cases.specs.Through.{writing, asking, importing}
use Rattle.cases.specs.MidiMade.{taken}
use Rattle.cases.specs.MidiFiles.{n036, n038, groove, equal_hits}

-- read, written, asked
abbrev phrase : (file text ends : List ℕ) → Answer (List ℕ)
phrase file text ends = taken file >>= (λ l. write l 999) >>= (λ s. search_text s Phrase text ends 9)

-- ---- n036 in bar 0 on 0, 14 and in bar 1 on 0; n038 in bar 0 on 4, 15

-- 14, 15 in bar 0. Fails: the last hit of a bar lost, only the first start tried
groove_two : phrase groove (n036 ++ n038) (4 ∷ 8 ∷ []) ≡ Ok (0 ∷ [])
unfolding importing writing asking
groove_two = refl

-- neighbours in the file, on either side of the bar line: none. Fails: a phrase over a bar line
groove_over_the_line : phrase groove (n038 ++ n036) (4 ∷ 8 ∷ []) ≡ Ok []
unfolding importing writing asking
groove_over_the_line = refl

-- alone: both bars. Fails: a hit on a bar line into the bar before, which has 0 alone
groove_one : phrase groove n036 (4 ∷ []) ≡ Ok (0 ∷ 1 ∷ [])
unfolding importing writing asking
groove_one = refl

-- ---- n038 in bar 0 on 0 and in bar 2 on 3; n036 in bar 0 on 0

-- bars 0 and 2. Fails: bars numbered by their place among those with hits
equal_hits_one : phrase equal_hits n038 (4 ∷ []) ≡ Ok (0 ∷ 2 ∷ [])
unfolding importing writing asking
equal_hits_one = refl

-- on one step: none. Fails: the same step for both
equal_hits_two : phrase equal_hits (n036 ++ n038) (4 ∷ 8 ∷ []) ≡ Ok []
unfolding importing writing asking
equal_hits_two = refl

-- n038 struck three times on one step is one hit. Fails: equal hits on the steps after
equal_hits_twice : phrase equal_hits (n038 ++ n038) (4 ∷ 8 ∷ []) ≡ Ok []
unfolding importing writing asking
equal_hits_twice = refl
