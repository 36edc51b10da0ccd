-- Document 01's numbers, as its "Replies and refusals" lists them, and those that document 02 adds. Elsewhere in this crate a refusal is
-- three digits.
use Rattle.segment.specs.declared.refusal.Reason.{Reason}
use Rattle.segment.specs.declared.refusal.Section.{Section}
use Rattle.std.specs.Prelude.{ℕ, ◌≡◌, refl, map, [], ◌∷◌}
use Rattle.segment.specs.Refusals.{section_number, reason_number, three, numbers}
use Rattle.segment.specs.Refusals.{header, term_directory, term_bytes, document_metadata, postings, term_postings, truncated, invalid_magic}
use Rattle.segment.specs.Refusals.{unsupported_version, unsupported_flags, checksum_mismatch, invalid_layout, invalid_varint}
use Rattle.segment.specs.Refusals.{doc_id_overflow, position_overflow, invalid_utf8, list_shape, too_large, no_room, trailing_bytes}
use Rattle.segment.specs.Refusals.{section_range_overflow, trailing_document_metadata, non_increasing_document_id}
use Rattle.segment.specs.Refusals.{directory_length_mismatch, empty_term, non_increasing_term, empty_term_posting_list}
use Rattle.segment.specs.Refusals.{non_increasing_posting_id, unknown_document, empty_position_list, non_increasing_position}
use Rattle.segment.specs.Refusals.{position_exceeds_length, trailing_posting_bytes, document_lengths_not_increasing, terms_not_increasing}
use Rattle.segment.specs.Refusals.{posting_id_gap_underflow, posting_ids_not_increasing, position_gap_underflow, positions_not_increasing}
use Rattle.segment.specs.Refusals.{written_position_exceeds_length, midi_file, bar_too_far, unknown_bar, bar_too_long, already_held}
use Rattle.segment.specs.Refusals.{pad_full, broken_pad, ids_not_rising, velocity_range}

-- 1 header, 2 term directory, 3 term bytes, 4 document metadata, 5 postings, 6 term postings
sections : map section_number (header ∷ term_directory ∷ term_bytes ∷ document_metadata ∷ postings ∷ term_postings ∷ []) ≡ 1 ∷ 2 ∷ 3 ∷ 4 ∷ 5 ∷ 6 ∷ []
sections = refl

-- 1 trailing bytes; 2 section range overflow; 3 trailing document metadata; 4 non-increasing document id; 5 directory length mismatch;
-- 6 empty term; 7 non-increasing term
reasons_of_opening :
    map reason_number (trailing_bytes ∷ section_range_overflow ∷ trailing_document_metadata ∷ non_increasing_document_id ∷ directory_length_mismatch
    ∷ empty_term ∷ non_increasing_term ∷ [])
    ≡ 1 ∷ 2 ∷ 3 ∷ 4 ∷ 5 ∷ 6 ∷ 7 ∷ []
reasons_of_opening = refl

-- 8 empty term posting list; 9 non-increasing posting id; 10 unknown document; 11 empty position list; 12 non-increasing position;
-- 13 position exceeds length; 14 trailing posting bytes
reasons_of_lists :
    map reason_number (empty_term_posting_list ∷ non_increasing_posting_id ∷ unknown_document ∷ empty_position_list ∷ non_increasing_position
    ∷ position_exceeds_length ∷ trailing_posting_bytes ∷ [])
    ≡ 8 ∷ 9 ∷ 10 ∷ 11 ∷ 12 ∷ 13 ∷ 14 ∷ []
reasons_of_lists = refl

-- 15 document lengths not increasing; 16 terms not increasing; 17 posting id gap underflow; 18 posting ids not increasing;
-- 19 position gap underflow; 20 positions not increasing; 21 written position exceeds length
reasons_of_writing :
    map reason_number (document_lengths_not_increasing ∷ terms_not_increasing ∷ posting_id_gap_underflow ∷ posting_ids_not_increasing
    ∷ position_gap_underflow ∷ positions_not_increasing ∷ written_position_exceeds_length ∷ [])
    ≡ 15 ∷ 16 ∷ 17 ∷ 18 ∷ 19 ∷ 20 ∷ 21 ∷ []
reasons_of_writing = refl

-- ---- kinds; what is not named is 0

-- 1 truncated (which: section)
kind_1 : (section : Section) → numbers (truncated section) ≡ three 1 (section_number section) 0
kind_1 section = refl

-- and of any number, whether it is one of these or not
told_1 : (section : ℕ) → three 1 section 0 ≡ record { kind = 1; which = section; index = 0 }
told_1 section = refl

-- 2 magic
kind_2 : numbers invalid_magic ≡ three 2 0 0
kind_2 = refl

-- 3 version (index: value)
kind_3 : (value : ℕ) → numbers (unsupported_version value) ≡ three 3 0 value
kind_3 value = refl

-- 4 flags (index: value)
kind_4 : (value : ℕ) → numbers (unsupported_flags value) ≡ three 4 0 value
kind_4 value = refl

-- 5 checksum (section)
kind_5 : (section : Section) → numbers (checksum_mismatch section) ≡ three 5 (section_number section) 0
kind_5 section = refl

-- and of any number, whether it is one of these or not
told_5 : (section : ℕ) → three 5 section 0 ≡ record { kind = 5; which = section; index = 0 }
told_5 section = refl

-- 6 layout (which: reason)
kind_6 : (reason : Reason) → numbers (invalid_layout reason) ≡ three 6 (reason_number reason) 0
kind_6 reason = refl

-- and of any number, whether it is one of these or not
told_6 : (reason : ℕ) → three 6 reason 0 ≡ record { kind = 6; which = reason; index = 0 }
told_6 reason = refl

-- 7 varint (section, index)
kind_7 : (section : Section) (index : ℕ) → numbers (invalid_varint section index) ≡ three 7 (section_number section) index
kind_7 section index = refl

-- and of any number, whether it is one of these or not
told_7 : (section index : ℕ) → three 7 section index ≡ record { kind = 7; which = section; index = index }
told_7 section index = refl

-- 8 document id overflow (index)
kind_8 : (index : ℕ) → numbers (doc_id_overflow index) ≡ three 8 0 index
kind_8 index = refl

-- 9 position overflow (index)
kind_9 : (index : ℕ) → numbers (position_overflow index) ≡ three 9 0 index
kind_9 index = refl

-- 10 not UTF-8
kind_10 : numbers invalid_utf8 ≡ three 10 0 0
kind_10 = refl

-- 11 list shape
kind_11 : numbers list_shape ≡ three 11 0 0
kind_11 = refl

-- 12 too large
kind_12 : numbers too_large ≡ three 12 0 0
kind_12 = refl

-- 13 no room (which: the buffer's place from 1; index: the length needed)
kind_13 : (buffer needed : ℕ) → numbers (no_room buffer needed) ≡ three 13 buffer needed
kind_13 buffer needed = refl

-- 14 outside the rules for a MIDI file (index: 0 for the header, 14 for the track's heading, else the offset of the event's delta time)
kind_14 : (index : ℕ) → numbers (midi_file index) ≡ three 14 0 index
kind_14 index = refl

-- 15 a hit beyond bar 65,535
kind_15 : numbers bar_too_far ≡ three 15 0 0
kind_15 = refl

-- 16 an unknown bar
kind_16 : numbers unknown_bar ≡ three 16 0 0
kind_16 = refl

-- 17 a bar longer than 64 steps
kind_17 : numbers bar_too_long ≡ three 17 0 0
kind_17 = refl

-- 18 an id that a pad holds already
kind_18 : numbers already_held ≡ three 18 0 0
kind_18 = refl

-- 19 a pad that is full
kind_19 : numbers pad_full ≡ three 19 0 0
kind_19 = refl

-- 20 words that are no pad
kind_20 : numbers broken_pad ≡ three 20 0 0
kind_20 = refl

-- 21 an id that is not above the one before it (index: its place from 0)
kind_21 : (place : ℕ) → numbers (ids_not_rising place) ≡ three 21 0 place
kind_21 place = refl

-- 22 a velocity outside 1 to 127
kind_22 : numbers velocity_range ≡ three 22 0 0
kind_22 = refl
