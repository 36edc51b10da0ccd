-- A layout that is the bytes' own.
use Rattle.std.specs.Prelude.{Ok, ℕ, ◌≡◌, Bool, true, List}
use Rattle.segment.specs.Records.{Segment}
use Rattle.segment.specs.Opening.{open_segment}
use Rattle.calls.specs.Whole.{every_list}
use Rattle.read_open.specs.declared.header.Layout.{Layout}
use Rattle.read_open.specs.Opened.{IsOpen}

-- the bytes open as a segment of this layout; if it is said to be known, every list decodes
pub record IsOwn (bytes : List ℕ) (l : Layout) (sure : Bool) : Type 0 where
  pub segment : Segment
  pub opens : open_segment bytes ≡ Ok segment
  pub is_open : IsOpen bytes l segment
  pub lists : sure ≡ true → every_list segment ≡ Ok tt
