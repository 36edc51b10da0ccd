-- What the counting pass comes to: the numbers of the lists. Proved in proofs/Sounding.antt.
use Rattle.std.specs.Prelude.{ℕ, ◌≤◌, ◌<◌, ◌≡◌, List, map, length, get_or}
use Rattle.common.specs.Lists.{total}
use Rattle.midi_read.specs.declared.track.Hit.{Hit}
use Rattle.midi_read.specs.Files.{Grid}
use Rattle.midi_read.specs.Claims.{NeverFall}
use Rattle.midi_read.specs.Walks.{over}
use Rattle.midi_bars.specs.Bars.{bar_count, bars_of, positions_of}
use Rattle.midi_bars.specs.Claims.{HitsFine}
use Rattle.midi_count.specs.Tallies.{Tallies, tally}
use Rattle.midi_count.specs.Promise.{zeros, tallies}

-- from empty tables on
abbrev pub counted : Grid → List Hit → Tallies
counted g hs = over (tally g) (tallies 0 (zeros 128) (zeros 128) (zeros 128)) hs

pub record CountsRight (g : Grid) (hs : List Hit) : Type 0 where
  pub bars : (counted g hs).bars ≡ bar_count g hs
  pub postings : (n : ℕ) → n < 128 → get_or (counted g hs).postings n 0 ≡ length (bars_of g hs n)
  pub positions : (n : ℕ) → n < 128
      → get_or (counted g hs).positions n 0 ≡ total (map (λ b. length (positions_of g hs n b)) (bars_of g hs n))

-- ticks never fall in file order, which crate midi_read proves (proofs/Fine.antt)
abbrev pub CountingRight : Type 0
CountingRight = (g : Grid) (hs : List Hit) → 1 ≤ g.ticks → HitsFine g hs → NeverFall 0 hs → CountsRight g hs
