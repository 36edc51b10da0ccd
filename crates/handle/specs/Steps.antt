-- What the decoding of all lists answers.
use Rattle.std.specs.Prelude.{Err, Ok, ℕ, ◌+◌, ◌≤◌, ◌<◌, ◌≡◌, List, get_or, drop}
use Rattle.segment.specs.Results.{Answer}
use Rattle.segment.specs.Records.{Segment}
use Rattle.segment.specs.Contents.{decode_all}
use Rattle.segment.specs.Steps.{checked}
use Rattle.calls.specs.Whole.{every_list}
use Rattle.read_open.specs.declared.header.Layout.{Layout}
use Rattle.read_open.specs.Opened.{IsOpen, no_entry}
use Rattle.read_terms.specs.Together.{ListDecodes}

-- all lists decoded, whichever segment the layout is said to be of
abbrev pub ListsChecked : List ℕ → Layout → Answer (Unit {0}) → Type 0
ListsChecked bytes l r = (s : Segment) → IsOpen bytes l s → r ≡ checked (every_list s)

-- ---- many lists at a time

-- a batch is not empty where a list remains
pub record BatchSize (remaining r : ℕ) : Type 0 where
  pub within : r ≤ remaining
  pub few : r ≤ 128
  pub some : 0 < remaining → 0 < r

-- the lists of m entries from an index on decode
pub record BatchDecodes (bytes : List ℕ) (l : Layout) (from m : ℕ) : Type 0 where
  pub each : (s : Segment) → IsOpen bytes l s → (k : ℕ) → k < m → ListDecodes s.documents (get_or s.entries (from + k) no_entry)

-- the lists of the entries from an index on
abbrev pub rest_checked : Segment → ℕ → Answer (Unit {0})
rest_checked s i = checked (decode_all s.documents (drop i s.entries))

-- the lists from an index up to another decoded: where they pass, those after them are all that is left to decode; a refusal stands
abbrev pub BatchChecked : List ℕ → Layout → (from to : ℕ) → Answer (Unit {0}) → Type 0
BatchChecked bytes l from to (Ok tt) = (s : Segment) → IsOpen bytes l s → rest_checked s from ≡ rest_checked s to
BatchChecked bytes l from to (Err x) = (s : Segment) → IsOpen bytes l s → Err x ≡ rest_checked s from
