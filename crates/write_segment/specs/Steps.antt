-- What the write pass leaves in the lent slice.
use Rattle.std.specs.Prelude.{None, ℕ, ◌+◌, ◌*◌, ◌≤◌, ◌≡◌, List, ◌++◌, length, drop}
use Rattle.std.proofs.lemmas.List.Edits.{sets}
use Rattle.crc32.specs.Crc32.{crc32_of}
use Rattle.segment.specs.Records.{header_size, entry_size}
use Rattle.write_frame.specs.declared.frame.Offsets.{Offsets}
use Rattle.calls.specs.Given.{Lists, given}
use Rattle.segment.specs.Written.{directory_bytes, lists_bytes, metadata_bytes, segment_bytes}
use Rattle.write_check_all.specs.Steps.{Checkable}

-- the sections have room in front of the lists, and the lists in the slice
pub record TermsRoom (l : Lists) (out : List ℕ) (at : ℕ) : Type 0 where
  pub checkable : Checkable l
  pub directory : header_size + entry_size * length l.ends ≤ at
  pub room : at + length (lists_bytes (given l).terms) ≤ length out

-- the lists from their offset on, and the directory at 72; answered is the lists' checksum
pub record TermsStored (l : Lists) (at : ℕ) (out : List ℕ) (r : ℕ) (out' : List ℕ) : Type 0 where
  pub checksum : r ≡ crc32_of (lists_bytes (given l).terms)
  pub left : out' ≡ sets (sets out at (lists_bytes (given l).terms)) header_size (directory_bytes 0 0 (given l).terms)

-- the offsets are the sections', and the slice has room for them
pub record SegmentRoom (l : Lists) (out : List ℕ) (at : Offsets) : Type 0 where
  pub checkable : Checkable l
  pub names : at.names ≡ header_size + entry_size * length l.ends
  pub metadata : at.metadata ≡ at.names + length l.text
  pub lists : at.lists ≡ at.metadata + length (metadata_bytes None (given l).documents)
  pub end : at.end ≡ at.lists + length (lists_bytes (given l).terms)
  pub room : at.end ≤ length out

pub record SegmentStored (l : Lists) (out out' : List ℕ) : Type 0 where
  pub left : out' ≡ segment_bytes (given l) ++ drop (length (segment_bytes (given l))) out
