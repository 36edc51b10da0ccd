-- The bars of a file's hits, whatever their order: every bar up to the last with a hit; the sounds that have hits, by rising note; under
-- each sound the bars in which it has hits, rising; under each bar the positions on which it has hits, rising. Equal hits count once.
use Rattle.std.specs.Prelude.{ℕ, zero, suc, ◌+◌, ◌/◌, ◌%◌, Bool, cond, ◌&&◌, List, [], ◌∷◌, map, ltb, eqb}
use Rattle.segment.specs.Records.{Posting, Term, Given}
use Rattle.segment.specs.Metadata.{document}
use Rattle.common.specs.Members.{some_of, kept}
use Rattle.calls.specs.Given.{Lists, posting, term, laid_flat}
use Rattle.midi_read.specs.declared.track.Hit.{Hit}
use Rattle.midi_read.specs.Files.{Grid, bar_of, position_of}

-- so many numbers that rise by one, from a first one on
unfoldable pub rising_from : (first count : ℕ) → List ℕ
rising_from first zero = []
rising_from first (suc n) = first ∷ rising_from (suc first) n

abbrev pub greater : ℕ → ℕ → ℕ
greater a b = cond (ltb a b) b a

-- "n" and the note as three decimal digits
abbrev pub name_of : (note : ℕ) → List ℕ
name_of note = 110 ∷ (48 + note / 100) ∷ (48 + note / 10 % 10) ∷ (48 + note % 10) ∷ []

-- a hit of a sound, of a sound in a bar, of a sound in a bar on a position
abbrev pub of_sound : (note : ℕ) → Hit → Bool
of_sound n h = eqb h.note n

abbrev pub in_bar : Grid → (note bar : ℕ) → Hit → Bool
in_bar g n b h = of_sound n h && eqb (bar_of g h) b

abbrev pub on_position : Grid → (note bar position : ℕ) → Hit → Bool
on_position g n b p h = in_bar g n b h && eqb (position_of g h) p

-- every bar from 0 to the last with a hit
unfoldable pub bar_count : Grid → List Hit → ℕ
bar_count g [] = 0
bar_count g (h ∷ hs) = greater (suc (bar_of g h)) (bar_count g hs)

module _ (g : Grid) (hs : List Hit) where
  unfoldable pub sounds_of : List ℕ
  sounds_of = kept (λ n. some_of (of_sound n) hs) (rising_from 0 128)

  unfoldable pub bars_of : (note : ℕ) → List ℕ
  bars_of n = kept (λ b. some_of (in_bar g n b) hs) (rising_from 0 (bar_count g hs))

  unfoldable pub positions_of : (note bar : ℕ) → List ℕ
  positions_of n b = kept (λ p. some_of (on_position g n b p) hs) (rising_from 0 g.steps)

  abbrev pub posting_of : (note bar : ℕ) → Posting
  posting_of n b = posting b (positions_of n b)

  abbrev pub term_of : (note : ℕ) → Term
  term_of n = term (name_of n) (map (posting_of n) (bars_of n))

  unfoldable pub given_of : Given
  given_of = record {
    documents = map (λ b. document b g.steps) (rising_from 0 (bar_count g hs));
    terms = map term_of sounds_of;
  }

  -- the eight lists
  unfoldable pub lists_of : Lists
  lists_of = laid_flat given_of
