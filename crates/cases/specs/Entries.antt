-- Opening: the directory. "Directory length; then per entry: term range, UTF-8, empty, order, postings range, df 0." Lists are not decoded.
use Rattle.std.specs.Prelude.{Ok, ℕ, ◌≡◌, refl, List, [], ◌∷◌, ◌++◌, take}
use Rattle.segment.specs.Results.{Answer}
use Rattle.segment.specs.Records.{Segment}
use Rattle.segment.specs.Opening.{open_segment}
use Rattle.cases.specs.Through.{opening}
use Rattle.cases.specs.Digits.{refused}
use Rattle.cases.specs.Sealing.{sealed, entry}

-- so many terms in this directory, over these names and lists, and no documents
abbrev terms : (count : ℕ) (directory names lists : List ℕ) → Answer Segment
terms count directory names lists = open_segment (sealed 0 count directory names [] lists)

-- ---- directory length: 32 bytes for each term

-- reason 5: no entry for one term. Fails: fewer terms than counted
no_entry : terms 1 [] [] [] ≡ refused 6 5 0
unfolding opening
no_entry = refl

-- 31 bytes. Fails: a field read past the section's end
entry_short : terms 1 (take 31 (entry 0 1 0 1 1 0)) (0x61 ∷ []) (0x07 ∷ []) ≡ refused 6 5 0
unfolding opening
entry_short = refl

-- 33 bytes. Fails: bytes after the last entry left over
entry_long : terms 1 (entry 0 1 0 1 1 0 ++ 0x00 ∷ []) (0x61 ∷ []) (0x07 ∷ []) ≡ refused 6 5 0
unfolding opening
entry_long = refl

-- an entry and no term. Fails: entries that no term has left over
entry_of_none : terms 0 (entry 0 1 0 1 1 0) (0x61 ∷ []) (0x07 ∷ []) ≡ refused 6 5 0
unfolding opening
entry_of_none = refl

-- before any entry: the first of two has no range. Fails: 1
length_before_entries : terms 2 (entry 9 9 0 1 1 0) (0x61 ∷ []) (0x07 ∷ []) ≡ refused 6 5 0
unfolding opening
length_before_entries = refl

-- ---- term range, section 3

-- a name longer than the text. Fails: a name cut at the text's end
term_long : terms 1 (entry 0 2 0 1 1 0) (0x61 ∷ []) (0x07 ∷ []) ≡ refused 1 3 0
unfolding opening
term_long = refl

-- offset 2, length 0 in a text of one byte. Fails: an empty range anywhere accepted, 6 of kind 6
term_past : terms 1 (entry 2 0 0 1 1 0) (0x61 ∷ []) (0x07 ∷ []) ≡ refused 1 3 0
unfolding opening
term_past = refl

-- offset and length both 2^32 - 1: no overflow, for the sum has 64 bits. Fails: 2 of kind 6, a sum that wraps
term_far : terms 1 (entry 0xFFFFFFFF 0xFFFFFFFF 0 1 1 0) (0x61 ∷ []) (0x07 ∷ []) ≡ refused 1 3 0
unfolding opening
term_far = refl

-- term range before UTF-8: the text is FF. Fails: 10
range_before_utf8 : terms 1 (entry 0 2 0 1 1 0) (0xFF ∷ []) (0x07 ∷ []) ≡ refused 1 3 0
unfolding opening
range_before_utf8 = refl

-- ---- UTF-8, empty, order

-- 10. Fails: names not tested
not_utf8 : terms 1 (entry 0 1 0 1 1 0) (0xFF ∷ []) (0x07 ∷ []) ≡ refused 10 0 0
unfolding opening
not_utf8 = refl

-- the name alone is tested: the first byte of C3 A9. Fails: the whole text tested
name_cut : terms 1 (entry 0 1 0 1 1 0) (0xC3 ∷ 0xA9 ∷ []) (0x07 ∷ []) ≡ refused 10 0 0
unfolding opening
name_cut = refl

-- and bytes that no name has are not: FF, a, FF. Fails: the whole text tested
text_around : terms 1 (entry 1 1 0 1 1 0) (0xFF ∷ 0x61 ∷ 0xFF ∷ []) (0x07 ∷ []) ≡ Ok (record {
  documents = [];
  entries =
      record { name = 0x61 ∷ []; list = 0x07 ∷ []; df = 1; checksum = 0 }
      ∷ [];
})
unfolding opening
text_around = refl

-- reason 6: offset 1, length 0 in a text of one byte. Fails: `<` for `<=` at a range's end
empty : terms 1 (entry 1 0 0 1 1 0) (0x61 ∷ []) (0x07 ∷ []) ≡ refused 6 6 0
unfolding opening
empty = refl

-- empty before order: an empty name after a. Fails: 7
empty_before_order : terms 2 (entry 0 1 0 1 1 0 ++ entry 0 0 0 1 1 0) (0x61 ∷ []) (0x07 ∷ []) ≡ refused 6 6 0
unfolding opening
empty_before_order = refl

-- reason 7: a name twice. Fails: `<=` for `<`
equal : terms 2 (entry 0 1 0 1 1 0 ++ entry 0 1 0 1 1 0) (0x61 ∷ []) (0x07 ∷ []) ≡ refused 6 7 0
unfolding opening
equal = refl

-- b, then a. Fails: only equal names refused
falling : terms 2 (entry 0 1 0 1 1 0 ++ entry 1 1 0 1 1 0) (0x62 ∷ 0x61 ∷ []) (0x07 ∷ []) ≡ refused 6 7 0
unfolding opening
falling = refl

-- ab, then a. Fails: a beginning counted as greater
beginning_after : terms 2 (entry 0 2 0 1 1 0 ++ entry 0 1 0 1 1 0) (0x61 ∷ 0x62 ∷ []) (0x07 ∷ []) ≡ refused 6 7 0
unfolding opening
beginning_after = refl

-- UTF-8 before order: C3 A9, then 80. Fails: 7
utf8_before_order : terms 2 (entry 0 2 0 1 1 0 ++ entry 2 1 0 1 1 0) (0xC3 ∷ 0xA9 ∷ 0x80 ∷ []) (0x07 ∷ []) ≡ refused 10 0 0
unfolding opening
utf8_before_order = refl

-- order before the postings' range. Fails: 1
order_before_postings : terms 2 (entry 0 1 0 1 1 0 ++ entry 1 1 0 2 1 0) (0x62 ∷ 0x61 ∷ []) (0x07 ∷ []) ≡ refused 6 7 0
unfolding opening
order_before_postings = refl

-- ---- postings range, section 5; df 0

-- offset 2^64 - 1, length 1: reason 2. Fails: a sum that wraps
postings_overflow : terms 1 (entry 0 1 0xFFFFFFFFFFFFFFFF 1 1 0) (0x61 ∷ []) (0x07 ∷ []) ≡ refused 6 2 0
unfolding opening
postings_overflow = refl

-- with length 0: truncated. Fails: an empty list anywhere accepted, `<=` at 2^64
postings_far : terms 1 (entry 0 1 0xFFFFFFFFFFFFFFFF 0 1 0) (0x61 ∷ []) (0x07 ∷ []) ≡ refused 1 5 0
unfolding opening
postings_far = refl

-- a byte more than there are. Fails: a list cut at the section's end
postings_long : terms 1 (entry 0 1 0 2 1 0) (0x61 ∷ []) (0x07 ∷ []) ≡ refused 1 5 0
unfolding opening
postings_long = refl

-- an empty list at the end of the section passes. Fails: `<` for `<=` at a range's end, empty lists refused
postings_at_end : terms 1 (entry 0 1 1 0 1 0) (0x61 ∷ []) (0x07 ∷ []) ≡ Ok (record {
  documents = [];
  entries =
      record { name = 0x61 ∷ []; list = []; df = 1; checksum = 0 }
      ∷ [];
})
unfolding opening
postings_at_end = refl

-- the postings' range before df 0. Fails: 8 of kind 6
range_before_df : terms 1 (entry 0 1 0 2 0 0) (0x61 ∷ []) (0x07 ∷ []) ≡ refused 1 5 0
unfolding opening
range_before_df = refl

-- reason 8. Fails: df at 28, which is 7 here
df_0 : terms 1 (entry 0 1 0 1 0 7) (0x61 ∷ []) (0x07 ∷ []) ≡ refused 6 8 0
unfolding opening
df_0 = refl

-- per entry: df 0 of the first before the second's name, FF. Fails: all names first
entry_by_entry : terms 2 (entry 0 1 0 1 0 0 ++ entry 1 1 0 1 1 0) (0x61 ∷ 0xFF ∷ []) (0x07 ∷ []) ≡ refused 6 8 0
unfolding opening
entry_by_entry = refl

-- and the second's own df. Fails: the first entry alone tested
second_entry : terms 2 (entry 0 1 0 1 1 0 ++ entry 1 1 0 1 0 0) (0x61 ∷ 0x62 ∷ []) (0x07 ∷ []) ≡ refused 6 8 0
unfolding opening
second_entry = refl

-- ---- accepted

-- entries may share or skip bytes of a section: a and ab of one text, two lists over one byte, one list beginning later. A list is not
-- decoded: these are nonsense, their checksums too. df and checksum are what the entry has. Fails: bytes that must follow one another
shared : terms 2 (entry 1 1 1 2 0xFFFFFFFF 9 ++ entry 1 2 2 2 3 0xFFFFFFFF) (0x78 ∷ 0x61 ∷ 0x62 ∷ 0x78 ∷ [])
    (0x80 ∷ 0x80 ∷ 0x80 ∷ 0x81 ∷ 0x80 ∷ []) ≡ Ok (record {
      documents = [];
      entries =
          record { name = 0x61 ∷ []; list = 0x80 ∷ 0x80 ∷ []; df = 4294967295; checksum = 9 }
          ∷ record { name = 0x61 ∷ 0x62 ∷ []; list = 0x80 ∷ 0x81 ∷ []; df = 3; checksum = 4294967295 }
          ∷ [];
    })
unfolding opening
shared = refl

-- 7A, then C3 A9. Fails: signed bytes
unsigned : terms 2 (entry 0 1 0 0 1 0 ++ entry 1 2 0 0 1 0) (0x7A ∷ 0xC3 ∷ 0xA9 ∷ []) [] ≡ Ok (record {
  documents = [];
  entries =
      record { name = 0x7A ∷ []; list = []; df = 1; checksum = 0 }
      ∷ record { name = 0xC3 ∷ 0xA9 ∷ []; list = []; df = 1; checksum = 0 }
      ∷ [];
})
unfolding opening
unsigned = refl
