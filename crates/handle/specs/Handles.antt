-- Handles: the one that checking answers, and when a call uses the one that it is handed.
use Rattle.segment.specs.Refusals.{numbers}
use Rattle.std.specs.Prelude.{Err, Ok, ℕ, ◌≤◌, ◌≡◌, List, ◌⊎◌}
use Rattle.segment.specs.declared.refusal.Numbers.{Numbers}
use Rattle.segment.specs.declared.refusal.Refusal.{Refusal}
use Rattle.segment.specs.Results.{Answer}
use Rattle.segment.specs.Records.{Segment}
use Rattle.segment.specs.Opening.{open_segment}
use Rattle.calls.specs.Whole.{every_list, whole_segment}
use Rattle.read_open.specs.declared.header.Layout.{Layout}
use Rattle.read_open.specs.Layouts.{layout_in}
use Rattle.read_open.specs.Opened.{IsOpen, Fits}
use Rattle.handle.specs.declared.handle.Handle.{Handle}

-- ---- the handle of some bytes

-- a level, and the layout
abbrev pub accepted : (level : ℕ) → Layout → Handle
accepted level l = record {
  kind = 0;
  which = 0;
  index = 0;
  level = level;
  documents = l.documents;
  terms = l.terms;
  spare = 0;
  names = l.names;
  metadata = l.metadata;
  lists = l.lists;
}

-- a refusal by its three numbers, whichever they are, at level 0
abbrev pub refused_with : Numbers → Handle
refused_with x = record {
  kind = x.kind;
  which = x.which;
  index = x.index;
  level = 0;
  documents = 0;
  terms = 0;
  spare = 0;
  names = 0;
  metadata = 0;
  lists = 0;
}

abbrev pub refused : Refusal → Handle
refused x = refused_with (numbers x)

abbrev pub handled : (level : ℕ) → Layout → Answer Segment → Handle
handled level l (Ok s) = accepted level l
handled level l (Err x) = refused x

-- opened: level 1, or the refusal
abbrev pub opened_once : List ℕ → Handle
opened_once bytes = handled 1 (layout_in bytes) (open_segment bytes)

-- opened and every list decoded: level 2, or the first refusal
abbrev pub checked_once : List ℕ → Handle
checked_once bytes = handled 2 (layout_in bytes) (whole_segment bytes)

-- the handle is what one of the two calls answered for these bytes
abbrev pub HandleOf : List ℕ → Handle → Type 0
HandleOf bytes h = (h ≡ checked_once bytes) ⊎ (h ≡ opened_once bytes)

-- ---- a handle that is handed in

abbrev pub layout_of : Handle → Layout
layout_of h = record {
  documents = h.documents;
  terms = h.terms;
  names = h.names;
  metadata = h.metadata;
  lists = h.lists;
}

-- a call uses it: the level is 1 or 2, and the layout fits the bytes
pub record Usable (bytes : List ℕ) (h : Handle) : Type 0 where
  pub lowest : 1 ≤ h.level
  pub highest : h.level ≤ 2
  pub fits : Fits bytes (layout_of h)

-- what a handle that is the bytes' own says, at level 1 and 2: they open, and its layout is the segment's; at level 2 every list decodes
pub record Vouches (bytes : List ℕ) (h : Handle) : Type 0 where
  pub segment : Segment
  pub opens : open_segment bytes ≡ Ok segment
  pub is_open : IsOpen bytes (layout_of h) segment
  pub lists : h.level ≡ 2 → every_list segment ≡ Ok tt
