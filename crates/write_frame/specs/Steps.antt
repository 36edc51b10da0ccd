-- What directory entries and the header leave in the lent slice, over what it already holds.
use Rattle.std.specs.Prelude.{ℕ, ◌+◌, ◌-◌, ◌^◌, ◌≤◌, ◌<◌, ◌≡◌, List, ◌++◌, length}
use Rattle.std.proofs.lemmas.List.Edits.{sets}
use Rattle.crc32.specs.Crc32.{crc32_of}
use Rattle.crc32.specs.Parts.{all_taken_in}
use Rattle.common.specs.Stores.{Stored}
use Rattle.segment.specs.Records.{between, header_size, entry_size}
use Rattle.segment.specs.Written.{fixed, entry_bytes, header_bytes}
use Rattle.write_frame.specs.declared.frame.Offsets.{Offsets}
use Rattle.write_frame.specs.declared.frame.Past.{Past}

-- four numbers of one width
abbrev pub four : (n w x y z : ℕ) → List ℕ
four n w x y z = fixed n w ++ fixed n x ++ fixed n y ++ fixed n z

-- a directory entry for a list that the slice holds between two offsets; the entry counts the first from where the lists start
abbrev pub entry_of_list : (out : List ℕ) (name name_length lists list end df : ℕ) → List ℕ
entry_of_list out name name_length lists list end df = entry_bytes name name_length (list - lists) (between list end out) df

pub record EntryRoom (out : List ℕ) (at name name_length lists list end : ℕ) : Type 0 where
  pub room : at + entry_size ≤ lists
  pub starts : lists ≤ list
  pub ends : list ≤ end
  pub inside : end ≤ length out
  pub small_name : name + name_length < 2 ^ 32

-- the entry, and the remainder of the lists' checksum carried on over its list
pub record EntryStored (out : List ℕ) (at name name_length lists list end df run : ℕ) (r : Past) (out' : List ℕ) : Type 0 where
  pub stored : Stored (entry_of_list out name name_length lists list end df) at out r.entry out'
  pub carried : r.run ≡ all_taken_in run (between list end out)

-- the sections lie one behind another, and the lists' checksum is known
pub record HeaderRoom (out : List ℕ) (lists_crc : ℕ) (at : Offsets) : Type 0 where
  pub directory : header_size ≤ at.names
  pub names : at.names ≤ at.metadata
  pub metadata : at.metadata ≤ at.lists
  pub lists : at.lists ≤ at.end
  pub end : at.end ≤ length out
  pub checksum : lists_crc ≡ crc32_of (between at.lists at.end out)

pub record HeaderStored (documents terms : ℕ) (at : Offsets) (out out' : List ℕ) : Type 0 where
  pub left : out' ≡ sets out 0
      (header_bytes documents terms (between header_size at.names out) (between at.names at.metadata out)
      (between at.metadata at.lists out) (between at.lists at.end out))
