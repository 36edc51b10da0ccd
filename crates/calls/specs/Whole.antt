-- A whole segment: it opens, and every list of its directory decodes.
use Rattle.std.specs.Prelude.{Ok, ℕ, ◌≡◌, List}
use Rattle.common.specs.Elements.{◌∈◌}
use Rattle.segment.specs.Results.{Answer, ◌>>=◌}
use Rattle.segment.specs.Records.{Posting, Entry, Segment}
use Rattle.segment.specs.Postings.{decode}
use Rattle.segment.specs.Opening.{open_segment}
use Rattle.segment.specs.Contents.{decode_all}

-- the lists of a segment decoded in the directory's order; the first refusal stands
abbrev pub every_list : Segment → Answer (Unit {0})
every_list s = do
  _ ← decode_all s.documents s.entries
  Ok tt

unfoldable pub whole_segment : (bytes : List ℕ) → Answer Segment
whole_segment bytes = do
  s ← open_segment bytes
  _ ← every_list s
  Ok s

-- the same in words: the bytes open as the segment, and every list of its directory decodes
pub record Whole (bytes : List ℕ) (s : Segment) : Type 0 where
  pub opens : open_segment bytes ≡ Ok s
  pub lists : (e : Entry) → e ∈ s.entries → (ps : List Posting) × (decode s.documents e ≡ Ok ps)
