-- What the functions of sums.rt and heads.rt promise and ask.
use Rattle.std.specs.Prelude.{ℕ, ◌*◌, ◌≤◌, ◌≡◌, List, map, length, replicate}
use Rattle.common.specs.Lists.{total, joined}
use Rattle.calls.specs.Given.{ends_from}
use Rattle.midi_bars.specs.Bars.{rising_from, name_of}
use Rattle.midi_count.specs.Tallies.{starts_from}
use Rattle.midi_count.specs.Promise.{Low}
use Rattle.midi_lists.specs.Heads.{heard, counts_of}

-- what the sums ask: counts of the counting pass, and tables of their length
pub record Summable (table starts : List ℕ) : Type 0 where
  pub low : Low 16777216 table
  pub table_long : length table ≡ 128
  pub starts_long : length starts ≡ 128

-- running sums of a table
pub record Begins (table : List ℕ) (r : ℕ) (starts' : List ℕ) : Type 0 where
  pub all : r ≡ total table
  pub starts : starts' ≡ starts_from 0 table

-- a place for each sound, and counts that fit it
pub record CountsFit (postings counts : List ℕ) : Type 0 where
  pub places : length counts ≡ length (heard postings)
  pub low : Low 16777216 postings

-- buffers as long as what is stored; those of the bars are as long as there are bars
pub record HeadsFit (postings ids₀ text₀ ends₀ counts₀ : List ℕ) : Type 0 where
  pub ids : length ids₀ ≤ 65536
  pub text : length text₀ ≡ 4 * length (heard postings)
  pub ends : length ends₀ ≡ length (heard postings)
  pub counts : length counts₀ ≡ length (heard postings)
  pub low : Low 16777216 postings

pub record HeadsPut (postings : List ℕ) (steps : ℕ) (ids₀ lengths₀ ids' lengths' text' ends' counts' : List ℕ) : Type 0 where
  pub ids : ids' ≡ rising_from 0 (length ids₀)
  pub lengths : lengths' ≡ replicate (length lengths₀) steps
  pub text : text' ≡ joined (map name_of (heard postings))
  pub ends : ends' ≡ ends_from 0 (map name_of (heard postings))
  pub counts : counts' ≡ counts_of postings
