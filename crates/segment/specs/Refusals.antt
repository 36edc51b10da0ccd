-- The refusals of documents 01 and 02, by the names that the definitions use; and the three numbers that a caller in C is told: kind, which,
-- index. Every number is here, once.
use Rattle.std.specs.Prelude.{ℕ}
use Rattle.segment.specs.declared.refusal.Section.{Section}
use Rattle.segment.specs.declared.refusal.Section.TheVariants as section
use Rattle.segment.specs.declared.refusal.Reason.{Reason}
use Rattle.segment.specs.declared.refusal.Reason.TheVariants as reason
use Rattle.segment.specs.declared.refusal.Refusal.{Refusal}
use Rattle.segment.specs.declared.refusal.Refusal.TheVariants as kind
use Rattle.segment.specs.declared.refusal.Numbers.{Numbers}

-- ---- sections

abbrev pub header : Section
header = section.Header

abbrev pub term_directory : Section
term_directory = section.TermDirectory

abbrev pub term_bytes : Section
term_bytes = section.TermBytes

abbrev pub document_metadata : Section
document_metadata = section.DocumentMetadata

abbrev pub postings : Section
postings = section.Postings

abbrev pub term_postings : Section
term_postings = section.TermPostings

-- ---- kinds, caused by whoever made the segment

abbrev pub truncated : (section : Section) → Refusal
truncated s = kind.Truncated s

abbrev pub invalid_magic : Refusal
invalid_magic = kind.InvalidMagic

abbrev pub unsupported_version : (value : ℕ) → Refusal
unsupported_version v = kind.UnsupportedVersion v

abbrev pub unsupported_flags : (value : ℕ) → Refusal
unsupported_flags v = kind.UnsupportedFlags v

abbrev pub checksum_mismatch : (section : Section) → Refusal
checksum_mismatch s = kind.ChecksumMismatch s

abbrev pub invalid_layout : (reason : Reason) → Refusal
invalid_layout r = kind.InvalidLayout r

abbrev pub invalid_varint : (section : Section) (index : ℕ) → Refusal
invalid_varint s i = kind.InvalidVarint s i

abbrev pub doc_id_overflow : (index : ℕ) → Refusal
doc_id_overflow i = kind.DocIdOverflow i

abbrev pub position_overflow : (index : ℕ) → Refusal
position_overflow i = kind.PositionOverflow i

abbrev pub invalid_utf8 : Refusal
invalid_utf8 = kind.InvalidUtf8

-- ---- kinds, caused by whoever calls

abbrev pub list_shape : Refusal
list_shape = kind.ListShape

abbrev pub too_large : Refusal
too_large = kind.TooLarge

-- the lent buffer's place from 1, and the length needed
abbrev pub no_room : (buffer length : ℕ) → Refusal
no_room b n = kind.NoRoom b n

-- ---- kinds, caused by whoever made the MIDI file (document 02)

-- outside the rules: 0 for the header, 14 for the track's heading; else an offset: of the wrong event's delta time, of the first byte after
-- the end of the track, or the file's length where that end is missing
abbrev pub midi_file : (index : ℕ) → Refusal
midi_file i = kind.MidiFile i

-- a hit beyond bar 65,535
abbrev pub bar_too_far : Refusal
bar_too_far = kind.BarTooFar

-- ---- kinds of a bar that is asked for by its id (document 02)

-- no bar has the id
abbrev pub unknown_bar : Refusal
unknown_bar = kind.UnknownBar

-- more than 64 steps
abbrev pub bar_too_long : Refusal
bar_too_long = kind.BarTooLong

-- ---- kinds of the pad (document 02)

-- a bar with the id is held already
abbrev pub already_held : Refusal
already_held = kind.AlreadyHeld

-- 256 bars are held, or the hits would pass 8,192
abbrev pub pad_full : Refusal
pad_full = kind.PadFull

-- the words are no pad
abbrev pub broken_pad : Refusal
broken_pad = kind.BrokenPad

-- a velocity outside 1 to 127
abbrev pub velocity_range : Refusal
velocity_range = kind.VelocityRange

-- ---- kinds of a caller's own lists (document 02)

-- the id on this place, counted from 0, is the first that is not above the one before it
abbrev pub ids_not_rising : (place : ℕ) → Refusal
ids_not_rising p = kind.IdsNotRising p

-- ---- reasons of an invalid layout: in what is read

abbrev pub trailing_bytes : Reason
trailing_bytes = reason.TrailingBytes

abbrev pub section_range_overflow : Reason
section_range_overflow = reason.SectionRangeOverflow

abbrev pub trailing_document_metadata : Reason
trailing_document_metadata = reason.TrailingDocumentMetadata

abbrev pub non_increasing_document_id : Reason
non_increasing_document_id = reason.NonIncreasingDocumentId

abbrev pub directory_length_mismatch : Reason
directory_length_mismatch = reason.DirectoryLengthMismatch

abbrev pub empty_term : Reason
empty_term = reason.EmptyTerm

abbrev pub non_increasing_term : Reason
non_increasing_term = reason.NonIncreasingTerm

abbrev pub empty_term_posting_list : Reason
empty_term_posting_list = reason.EmptyTermPostingList

abbrev pub non_increasing_posting_id : Reason
non_increasing_posting_id = reason.NonIncreasingPostingId

abbrev pub unknown_document : Reason
unknown_document = reason.UnknownDocument

abbrev pub empty_position_list : Reason
empty_position_list = reason.EmptyPositionList

abbrev pub non_increasing_position : Reason
non_increasing_position = reason.NonIncreasingPosition

abbrev pub position_exceeds_length : Reason
position_exceeds_length = reason.PositionExceedsLength

abbrev pub trailing_posting_bytes : Reason
trailing_posting_bytes = reason.TrailingPostingBytes

-- ---- and in what is handed to the writer (6, 8, 10 and 11 above serve there too)

abbrev pub document_lengths_not_increasing : Reason
document_lengths_not_increasing = reason.DocumentLengthsNotIncreasing

abbrev pub terms_not_increasing : Reason
terms_not_increasing = reason.TermsNotIncreasing

abbrev pub posting_id_gap_underflow : Reason
posting_id_gap_underflow = reason.PostingIdGapUnderflow

abbrev pub posting_ids_not_increasing : Reason
posting_ids_not_increasing = reason.PostingIdsNotIncreasing

abbrev pub position_gap_underflow : Reason
position_gap_underflow = reason.PositionGapUnderflow

abbrev pub positions_not_increasing : Reason
positions_not_increasing = reason.PositionsNotIncreasing

abbrev pub written_position_exceeds_length : Reason
written_position_exceeds_length = reason.WrittenPositionExceedsLength

-- ---- the numbers

abbrev pub section_number : Section → ℕ
section_number section.Header = 1
section_number section.TermDirectory = 2
section_number section.TermBytes = 3
section_number section.DocumentMetadata = 4
section_number section.Postings = 5
section_number section.TermPostings = 6

abbrev pub reason_number : Reason → ℕ
reason_number reason.TrailingBytes = 1
reason_number reason.SectionRangeOverflow = 2
reason_number reason.TrailingDocumentMetadata = 3
reason_number reason.NonIncreasingDocumentId = 4
reason_number reason.DirectoryLengthMismatch = 5
reason_number reason.EmptyTerm = 6
reason_number reason.NonIncreasingTerm = 7
reason_number reason.EmptyTermPostingList = 8
reason_number reason.NonIncreasingPostingId = 9
reason_number reason.UnknownDocument = 10
reason_number reason.EmptyPositionList = 11
reason_number reason.NonIncreasingPosition = 12
reason_number reason.PositionExceedsLength = 13
reason_number reason.TrailingPostingBytes = 14
reason_number reason.DocumentLengthsNotIncreasing = 15
reason_number reason.TermsNotIncreasing = 16
reason_number reason.PostingIdGapUnderflow = 17
reason_number reason.PostingIdsNotIncreasing = 18
reason_number reason.PositionGapUnderflow = 19
reason_number reason.PositionsNotIncreasing = 20
reason_number reason.WrittenPositionExceedsLength = 21

abbrev pub three : (kind which index : ℕ) → Numbers
three k w i = record { kind = k; which = w; index = i }

-- what the source's Error does not carry is 0
abbrev pub numbers : Refusal → Numbers
numbers (kind.Truncated s) = three 1 (section_number s) 0
numbers kind.InvalidMagic = three 2 0 0
numbers (kind.UnsupportedVersion v) = three 3 0 v
numbers (kind.UnsupportedFlags v) = three 4 0 v
numbers (kind.ChecksumMismatch s) = three 5 (section_number s) 0
numbers (kind.InvalidLayout r) = three 6 (reason_number r) 0
numbers (kind.InvalidVarint s i) = three 7 (section_number s) i
numbers (kind.DocIdOverflow i) = three 8 0 i
numbers (kind.PositionOverflow i) = three 9 0 i
numbers kind.InvalidUtf8 = three 10 0 0
numbers kind.ListShape = three 11 0 0
numbers kind.TooLarge = three 12 0 0
numbers (kind.NoRoom b n) = three 13 b n
numbers (kind.MidiFile i) = three 14 0 i
numbers kind.BarTooFar = three 15 0 0
numbers kind.UnknownBar = three 16 0 0
numbers kind.BarTooLong = three 17 0 0
numbers kind.AlreadyHeld = three 18 0 0
numbers kind.PadFull = three 19 0 0
numbers kind.BrokenPad = three 20 0 0
numbers (kind.IdsNotRising i) = three 21 0 i
numbers kind.VelocityRange = three 22 0 0
