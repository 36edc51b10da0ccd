-- The handles that opening once and checking answer: of document 01's "Bars to try", whose segment has 165 bytes; of uneven documents; of
-- segments that open, with lists that do not decode; and of bytes that do not open.
use Rattle.std.specs.Prelude.{ℕ, ◌≡◌, refl, [], ◌∷◌, ◌++◌, set}
use Rattle.handle.specs.declared.handle.Handle.{Handle}
use Rattle.handle.specs.Handles.{opened_once, checked_once}
use Rattle.cases.specs.Through.{checking_once}
use Rattle.cases.specs.Sealing.{sealed}
use Rattle.cases.specs.Segments.{segment_of_two, segment_of_uneven}
use Rattle.cases.specs.Faulty.{two_faults, late_fault, large_df, wrong_checksum}

-- the ten numbers, as they stand in the record
abbrev handle : (kind which index level documents terms spare names metadata lists : ℕ) → Handle
handle kind which index level documents terms spare names metadata lists = record {
  kind = kind;
  which = which;
  index = index;
  level = level;
  documents = documents;
  terms = terms;
  spare = spare;
  names = names;
  metadata = metadata;
  lists = lists;
}

-- ---- accepted

-- 72 bytes of header, 64 of directory, 9 of names, 4 of metadata. Fails: lengths for ends, level 1
checked_two : checked_once segment_of_two ≡ handle 0 0 0 2 2 2 0 136 145 149
unfolding checking_once
checked_two = refl

-- the same, opened. Fails: level 2
opened_two : opened_once segment_of_two ≡ handle 0 0 0 1 2 2 0 136 145 149
unfolding checking_once
opened_two = refl

-- three documents, one term. Fails: the counts exchanged
checked_uneven : checked_once segment_of_uneven ≡ handle 0 0 0 2 3 1 0 104 107 117
unfolding checking_once
checked_uneven = refl

-- no bars, no sounds: nothing remains to decode. Fails: a refusal, level 1
checked_nothing : checked_once (sealed 0 0 [] [] [] []) ≡ handle 0 0 0 2 0 0 0 72 72 72
unfolding checking_once
checked_nothing = refl

-- ---- lists that do not decode: opened only

-- a checksum that is not the list's (5 6 0). Fails: level 0
opened_undecoded : opened_once wrong_checksum ≡ handle 0 0 0 1 1 1 0 104 105 107
unfolding checking_once
opened_undecoded = refl

-- checked, it is refused, and the layout is not told. Fails: level 1 or 2, the layout beside the refusal
checked_checksum : checked_once wrong_checksum ≡ handle 5 6 0 0 0 0 0 0 0 0
unfolding checking_once
checked_checksum = refl

-- two lists at fault: the first in the directory's order. Fails: 6 11 0
checked_first : checked_once two_faults ≡ handle 7 5 0 0 0 0 0 0 0 0
unfolding checking_once
checked_first = refl

-- the last posting of a list. Fails: only the first looked at
checked_late : checked_once late_fault ≡ handle 6 9 0 0 0 0 0 0 0 0
unfolding checking_once
checked_late = refl

-- a refusal with an index. Fails: index 0
checked_index : checked_once large_df ≡ handle 7 5 1 0 0 0 0 0 0 0
unfolding checking_once
checked_index = refl

-- ---- what does not open

-- no byte at all. Fails: level 1
opened_empty : opened_once [] ≡ handle 1 1 0 0 0 0 0 0 0 0
unfolding checking_once
opened_empty = refl

checked_empty : checked_once [] ≡ handle 1 1 0 0 0 0 0 0 0 0
unfolding checking_once
checked_empty = refl

-- the last of the 165 bytes changed: a section's checksum, before any list is decoded. Fails: 5 6 0
opened_changed : opened_once (set segment_of_two 164 0x02) ≡ handle 5 5 0 0 0 0 0 0 0 0
unfolding checking_once
opened_changed = refl

checked_changed : checked_once (set segment_of_two 164 0x02) ≡ handle 5 5 0 0 0 0 0 0 0 0
unfolding checking_once
checked_changed = refl

-- one byte too many, and lists at fault: opening's refusal stands. Fails: 7 5 0
checked_opens_first : checked_once (two_faults ++ 0x00 ∷ []) ≡ handle 6 1 0 0 0 0 0 0 0 0
unfolding checking_once
checked_opens_first = refl
