-- The five lists, made from the counts alone, are those of the hits. Proved in proofs/Sounds.antt and Tables.antt.
use Rattle.std.specs.Prelude.{ℕ, ◌*◌, ◌≤◌, ◌≡◌, List, map, length, replicate}
use Rattle.common.specs.Lists.{joined}
use Rattle.calls.specs.Given.{ends_from}
use Rattle.midi_read.specs.declared.track.Hit.{Hit}
use Rattle.midi_read.specs.Files.{Grid}
use Rattle.midi_read.specs.Claims.{NeverFall}
use Rattle.midi_bars.specs.Bars.{rising_from, name_of, bar_count, sounds_of, lists_of}
use Rattle.midi_bars.specs.Claims.{HitsFine}
use Rattle.midi_count.specs.Promise.{Low}
use Rattle.midi_count.specs.Claims.{counted}
use Rattle.midi_lists.specs.Heads.{heard, counts_of}

-- the sounds of the counting pass
abbrev pub sounding : Grid → List Hit → List ℕ
sounding g hs = heard (counted g hs).postings

pub record HeadsRight (g : Grid) (hs : List Hit) : Type 0 where
  -- a note has a posting exactly when it has a hit
  pub sounds : sounds_of g hs ≡ sounding g hs
  pub ids : (lists_of g hs).ids ≡ rising_from 0 (bar_count g hs)
  pub lengths : (lists_of g hs).lengths ≡ replicate (bar_count g hs) g.steps
  pub text : (lists_of g hs).text ≡ joined (map name_of (sounding g hs))
  pub ends : (lists_of g hs).ends ≡ ends_from 0 (map name_of (sounding g hs))
  pub posting_counts : (lists_of g hs).posting_counts ≡ counts_of (counted g hs).postings
  -- how long they are
  pub ids_length : length (lists_of g hs).ids ≡ bar_count g hs
  pub lengths_length : length (lists_of g hs).lengths ≡ bar_count g hs
  pub text_length : length (lists_of g hs).text ≡ 4 * length (sounding g hs)
  pub ends_length : length (lists_of g hs).ends ≡ length (sounding g hs)
  pub posting_counts_length : length (lists_of g hs).posting_counts ≡ length (sounding g hs)
  pub bars_few : bar_count g hs ≤ 65536
  pub sounds_few : length (sounding g hs) ≤ 128

-- for hits as a file has them, in file order (the premises of CountingRight, crate midi_count)
abbrev pub HeadsAreRight : Type 0
HeadsAreRight = (g : Grid) (hs : List Hit) → 1 ≤ g.ticks → HitsFine g hs → NeverFall 0 hs → HeadsRight g hs

-- the tables that the counting pass leaves are such as begin and put_heads ask for
pub record TablesFine (g : Grid) (hs : List Hit) : Type 0 where
  pub postings_long : length (counted g hs).postings ≡ 128
  pub positions_long : length (counted g hs).positions ≡ 128
  pub postings_low : Low 16777216 (counted g hs).postings
  pub positions_low : Low 16777216 (counted g hs).positions

abbrev pub TablesAreFine : Type 0
TablesAreFine = (g : Grid) (hs : List Hit) → HitsFine g hs → TablesFine g hs
