-- The bytes written, and what they give back.
use Rattle.cases.specs.Digits.{refusal_of, refused}
use Rattle.std.specs.Prelude.{Err, Ok, ◌≡◌, refl, [], ◌∷◌, ◌++◌, length, take, drop, replicate}
use Rattle.calls.specs.Given.{Lists, given, laid_flat}
use Rattle.calls.specs.Writing.{write}
use Rattle.segment.specs.Contents.{decode_segment}
use Rattle.write_segment.specs.Promise.{Wrote}
use Rattle.claim_joint.specs.Own.{own}
use Rattle.calls.specs.Sizes.{segment_size}
use Rattle.cases.specs.Through.{writing, measuring, owning, reading_back, flattening}
use Rattle.cases.specs.Sealing.{document, posting}
use Rattle.cases.specs.Segments.{kick, snare, hat, a, b, two_documents, segment_of_two, uneven, segment_of_uneven, spread}
use Rattle.cases.specs.Segments.{segment_of_spread, same_step, segment_of_same_step, high, segment_of_high}

-- ---- what the eight lists stand for

-- counts cut the next list in turn, ends the text. Fails: counts taken from the front each time, or of the wrong list
two_stand_for : given two_documents
    ≡ record {
      documents = document 3 16 ∷ document 7 16 ∷ [];
      terms =
          record { name = kick; postings = posting 3 (0 ∷ 4 ∷ 15 ∷ []) ∷ posting 7 (2 ∷ []) ∷ [] }
          ∷ record { name = snare; postings = posting 3 (8 ∷ 14 ∷ []) ∷ posting 7 (3 ∷ 4 ∷ []) ∷ [] }
          ∷ [];
    }
unfolding flattening
two_stand_for = refl

-- postings of different numbers of positions. Fails: positions cut by the posting counts
spread_stand_for : given spread
    ≡ record {
      documents = document 2 5 ∷ document 9 300 ∷ document 70000 4096 ∷ [];
      terms =
          record { name = a; postings = posting 2 (4 ∷ []) ∷ posting 70000 (0 ∷ 5 ∷ 4095 ∷ []) ∷ [] }
          ∷ record { name = b; postings = posting 9 (7 ∷ []) ∷ [] }
          ∷ [];
    }
unfolding flattening
spread_stand_for = refl

-- documents without postings. Fails: documents by their postings
uneven_stand_for : given uneven
    ≡ record {
      documents = document 2 5 ∷ document 9 300 ∷ document 70000 4096 ∷ [];
      terms = record { name = hat; postings = posting 9 (0 ∷ 128 ∷ 299 ∷ []) ∷ [] } ∷ [];
    }
unfolding flattening
uneven_stand_for = refl

-- laid flat again, the eight lists. Fails: ends for lengths of names
two_flat : laid_flat (given two_documents) ≡ two_documents
unfolding flattening
two_flat = refl

-- and here. Fails: counts of the wrong list
spread_flat : laid_flat (given spread) ≡ spread
unfolding flattening
spread_flat = refl

-- and documents that no posting names. Fails: documents by their postings
uneven_flat : laid_flat (given uneven) ≡ uneven
unfolding flattening
uneven_flat = refl

-- a bar's own steps for a sound; none if nothing stands there. Fails: another bar's, another sound's
own_steps : own two_documents 3 kick ≡ 0 ∷ 4 ∷ 15 ∷ []
unfolding owning
own_steps = refl

-- another bar, another sound. Fails: the first list
own_of_the_other : own two_documents 7 snare ≡ 3 ∷ 4 ∷ []
unfolding owning
own_of_the_other = refl

-- a bar without the sound. Fails: the next bar's
own_none : own spread 9 a ≡ []
unfolding owning
own_none = refl

-- ---- bytes

-- the two bars. Fails: a step held back, a gap not taken
two_written : write two_documents 165 ≡ Ok segment_of_two
unfolding writing
two_written = refl

-- M: a segment of 165 bytes. Fails: a header of another length
two_size : length segment_of_two ≡ 165
two_size = refl

-- M: metadata 03 10 04 10, after 72 bytes, two entries of 32 and 9 bytes of names. Fails: the second id itself, 07
two_metadata : take 4 (drop 145 segment_of_two) ≡ 0x03 ∷ 0x10 ∷ 0x04 ∷ 0x10 ∷ []
two_metadata = refl

-- M: kick's postings 03 03 00 04 0B 04 01 02. Fails: the position 15 itself, 0F
two_kick : take 8 (drop 149 segment_of_two) ≡ 0x03 ∷ 0x03 ∷ 0x00 ∷ 0x04 ∷ 0x0B ∷ 0x04 ∷ 0x01 ∷ 0x02 ∷ []
two_kick = refl

-- three documents and one term. Fails: the counts of the header swapped, a checksum of the whole section as the list's
uneven_written : write uneven 124 ≡ Ok segment_of_uneven
unfolding writing
uneven_written = refl

-- two lists of different length and df. Fails: offsets that do not add up, df for the number of positions
spread_written : write spread 162 ≡ Ok segment_of_spread
unfolding writing
spread_written = refl

-- ids and positions from 0 on. Fails: a first gap counted from 1
same_step_written : write same_step 154 ≡ Ok segment_of_same_step
unfolding writing
same_step_written = refl

-- numbers of five bytes. Fails: numbers cut to four bytes
high_written : write high 170 ≡ Ok segment_of_high
unfolding writing
high_written = refl

-- no bars, no sounds: magic, 02, then 63 zero bytes
nothing_handed_in : Lists
nothing_handed_in = record {
  ids = [];
  lengths = [];
  text = [];
  ends = [];
  posting_counts = [];
  posting_ids = [];
  position_counts = [];
  positions = [];
}

nothing_written : write nothing_handed_in 72 ≡ Ok (0x50 ∷ 0x53 ∷ 0x54 ∷ 0x50 ∷ 0x30 ∷ 0x30 ∷ 0x30 ∷ 0x31 ∷ 0x02 ∷ replicate 63 0x00)
unfolding writing nothing_handed_in
nothing_written = refl

-- the sizes that the claim across writer and search names. Fails: a size that is not the writer's
two_measured : segment_size two_documents ≡ 165
unfolding measuring
two_measured = refl

-- documents without postings. Fails: only documents with postings
uneven_measured : segment_size uneven ≡ 124
unfolding measuring
uneven_measured = refl

-- numbers of five bytes. Fails: one byte for each number
high_measured : segment_size high ≡ 170
unfolding measuring
high_measured = refl

-- ---- the lent slice

-- room for exactly the bytes; the reply is their number. One place more is unchanged. Fails: 13 while places suffice, a tail cleared
two_left : Wrote two_documents (replicate 167 0xAA) (Ok 165) (segment_of_two ++ 0xAA ∷ 0xAA ∷ [])
unfolding writing
two_left = record { reply = refl; left = refl }

-- 13: index is the length needed; the slice is unchanged. Fails: bytes stored as far as they go
two_refused : Wrote two_documents (replicate 164 0xAA) (Err (refusal_of 13 1 165)) (replicate 164 0xAA)
unfolding writing
two_refused = record { reply = refl; left = refl }

-- 13 for a header alone. Fails: no room needed for nothing
nothing_refused : write nothing_handed_in 71 ≡ refused 13 1 72
unfolding writing nothing_handed_in
nothing_refused = refl

-- ---- given back: the same ids and lengths, the same names, and under each name the same ids, each with the same positions

-- two lists. Fails: a first position or id taken as a gap to the one before
two_back : decode_segment segment_of_two ≡ Ok (given two_documents)
unfolding reading_back flattening
two_back = refl

-- documents without postings. Fails: documents by their postings
uneven_back : decode_segment segment_of_uneven ≡ Ok (given uneven)
unfolding reading_back flattening
uneven_back = refl

-- lists of different length. Fails: a list that runs into the next
spread_back : decode_segment segment_of_spread ≡ Ok (given spread)
unfolding reading_back flattening
spread_back = refl

-- numbers of five bytes. Fails: a sum of 32 bits
high_back : decode_segment segment_of_high ≡ Ok (given high)
unfolding reading_back flattening
high_back = refl
