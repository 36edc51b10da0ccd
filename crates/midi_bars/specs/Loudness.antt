-- How loud the hits are (document 02, wish 9): beside each position of the lists the velocity of the loudest hit there, in the positions'
-- order, so not in file order.
use Rattle.std.specs.Prelude.{ℕ, List, [], ◌∷◌, map}
use Rattle.common.specs.Members.{kept}
use Rattle.common.specs.Lists.{joined}
use Rattle.calls.specs.Given.{Lists}
use Rattle.midi_read.specs.declared.track.Hit.{Hit}
use Rattle.midi_read.specs.Files.{Grid}
use Rattle.midi_bars.specs.Bars.{greater, on_position, sounds_of, bars_of, positions_of, lists_of}

-- 0 where there is none
unfoldable pub greatest : List ℕ → ℕ
greatest [] = 0
greatest (v ∷ vs) = greater v (greatest vs)

-- the lists that the writer takes, and the velocities beside the positions
pub record AllLists : Type 0 where
  pub lists : Lists
  pub velocities : List ℕ

abbrev pub beside : Lists → (velocities : List ℕ) → AllLists
beside l v = record { lists = l; velocities = v }

module _ (g : Grid) (hs : List Hit) where
  -- the greatest velocity of the hits of a sound in a bar on a position
  abbrev pub loudest : (note bar position : ℕ) → ℕ
  loudest n b p = greatest (map (λ h. h.velocity) (kept (on_position g n b p) hs))

  unfoldable pub velocities_of : List ℕ
  velocities_of = joined (map (λ n. joined (map (λ b. map (loudest n b) (positions_of g hs n b)) (bars_of g hs n))) (sounds_of g hs))

  abbrev pub all_of : AllLists
  all_of = beside (lists_of g hs) velocities_of
