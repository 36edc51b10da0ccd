-- The pad written out (document 02, wish 6): bars by rising id, sounds by rising number, under the names that are handed in then. Bars 3
-- and 7 have sounds 36 and 38, which give document 01's segment of 165 bytes where these are kick and snare.
use Rattle.cases.specs.Digits.{refusal_of, refused}
use Rattle.std.specs.Prelude.{Err, Ok, ℕ, ◌≡◌, List, [], ◌∷◌, ◌++◌, length, replicate}
use Rattle.std.proofs.Math.Path.{refl}
use Rattle.segment.specs.Texts.{names}
use Rattle.calls.specs.Given.{laid_flat}
use Rattle.pad_map.specs.Bars.{hit, bar}
use Rattle.pad_map.specs.Acts.{given_of}
use Rattle.pad_words.specs.Calls.{pad_write}
use Rattle.pad_write.specs.Promise.{PadWritten}
use Rattle.cases.specs.Through.{writing_out}
use Rattle.cases.specs.Segments.{kick, snare, a, b, two_documents, segment_of_two}
use Rattle.cases.specs.PadMade.{empty, two_bars, pad_of_two}

-- 128 ends: a name up to here for 36, one up to there for 38, the other 126 empty
abbrev two_ends : (first second : ℕ) → List ℕ
two_ends m n = replicate 36 0 ++ m ∷ m ∷ replicate 90 n

-- ---- what is written

-- the lists of the map are those of the two bars. Fails: a sound without hits as a term, bars in another order, the sound number for a name
lists : laid_flat (given_of (names 0 (two_ends 4 9) (kick ++ snare)) two_bars) ≡ two_documents
unfolding writing_out
lists = refl

-- sounds 0 and 127, the first and the last. Fails: sounds from 1 on, 127 names
first_and_last : laid_flat (given_of (names 0 (replicate 127 1 ++ 2 ∷ []) (a ++ b))
    (bar 4 2 (hit 0 1 127 ∷ hit 127 0 1 ∷ []) ∷ [])) ≡ record {
      ids = 4 ∷ [];
      lengths = 2 ∷ [];
      text = a ++ b;
      ends = 1 ∷ 2 ∷ [];
      posting_counts = 1 ∷ 1 ∷ [];
      posting_ids = 4 ∷ 4 ∷ [];
      position_counts = 1 ∷ 1 ∷ [];
      positions = 1 ∷ 0 ∷ [];
    }
unfolding writing_out
first_and_last = refl

-- sound 5 in bar 9 alone, sound 6 in bars 2 and 9; bar 4 has neither. Fails: a posting without positions, bars by their hits
some_bars : laid_flat (given_of (names 0 (replicate 5 0 ++ 1 ∷ replicate 122 2) (a ++ b))
    (bar 2 8 (hit 6 0 9 ∷ hit 6 7 8 ∷ []) ∷ bar 4 8 [] ∷ bar 9 8 (hit 5 3 7 ∷ hit 6 1 6 ∷ []) ∷ [])) ≡ record {
      ids = 2 ∷ 4 ∷ 9 ∷ [];
      lengths = 8 ∷ 8 ∷ 8 ∷ [];
      text = a ++ b;
      ends = 1 ∷ 2 ∷ [];
      posting_counts = 1 ∷ 2 ∷ [];
      posting_ids = 9 ∷ 2 ∷ 9 ∷ [];
      position_counts = 1 ∷ 2 ∷ 1 ∷ [];
      positions = 3 ∷ 0 ∷ 7 ∷ 1 ∷ [];
    }
unfolding writing_out
some_bars = refl

-- the empty pad: the empty segment. Fails: 11, a refusal of nothing
empty_out : pad_write empty [] (replicate 128 0) 72 ≡ Ok (0x50 ∷ 0x53 ∷ 0x54 ∷ 0x50 ∷ 0x30 ∷ 0x30 ∷ 0x30 ∷ 0x31 ∷ 0x02 ∷ replicate 63 0x00)
unfolding writing_out
empty_out = refl

-- bar 3 without hits: a document and no terms, 74 bytes, under any names, here one that is not UTF-8. Fails: the bar left out, 10
without_hits : (rest : List ℕ) → length (1 ∷ 0 ∷ 3 ∷ 16 ∷ 0 ∷ rest) ≡ 17154
    → pad_write (1 ∷ 0 ∷ 3 ∷ 16 ∷ 0 ∷ rest) (0xFF ∷ []) (replicate 128 1) 73 ≡ refused 13 1 74
unfolding writing_out
without_hits rest n = rw n refl

-- ---- the number of ends, and their shape: 11, though nothing is held

-- 127 and 129 ends of an empty text, and none. Fails: 12 for over 128, fewer names taken for empty ones
ends_127 : (pad_write empty [] (replicate 127 0) 72 ≡ refused 11 0 0)
    × (pad_write empty [] (replicate 129 0) 72 ≡ refused 11 0 0)
    × (pad_write empty [] [] 72 ≡ refused 11 0 0)
unfolding writing_out
ends_127 = (refl, refl, refl)

-- ends that fall, of sounds without hits; a last end that is not the text's length, on both sides. Fails: names with hits alone looked at
ends_shape : (pad_write empty a (1 ∷ 0 ∷ replicate 126 1) 72 ≡ refused 11 0 0)
    × (pad_write empty a (replicate 128 0) 72 ≡ refused 11 0 0)
    × (pad_write empty [] (replicate 128 1) 72 ≡ refused 11 0 0)
unfolding writing_out
ends_shape = (refl, refl, refl)

module _ (rest : List ℕ) (n : length (pad_of_two rest) ≡ 17154) where
  -- room for exactly the bytes. Fails: 13 while places suffice, bar 7 before bar 3
  two_out : pad_write (pad_of_two rest) (kick ++ snare) (two_ends 4 9) 165 ≡ Ok segment_of_two
  unfolding writing_out
  two_out = rw n refl

  -- two places more stay as they were. Fails: a tail cleared
  two_left : PadWritten (pad_of_two rest) (kick ++ snare) (two_ends 4 9) (replicate 167 0xAA) (Ok 165)
      (segment_of_two ++ 0xAA ∷ 0xAA ∷ [])
  unfolding writing_out
  two_left = record { reply = rw n refl; left = rw n refl }

  -- 13: out is buffer 1, the pad is none. Fails: 13 2, bytes stored as far as they go
  two_short : PadWritten (pad_of_two rest) (kick ++ snare) (two_ends 4 9) (replicate 164 0xAA)
      (Err (refusal_of 13 1 165))
      (replicate 164 0xAA)
  unfolding writing_out
  two_short = record { reply = rw n refl; left = rw n refl }

  -- ---- names of sounds without hits are in 12 and 11 alone

  -- 0 has a byte that is not UTF-8, 37 the name of 36, 39 a name below that of 38, the others none; 13 comes last. Fails: 10, 6 16, 6 6
  others : pad_write (pad_of_two rest) (0xFF ∷ kick ++ kick ++ snare ++ a) (replicate 36 1 ++ 5 ∷ 9 ∷ 14 ∷ replicate 89 15) 164
      ≡ refused 13 1 165
  unfolding writing_out
  others = rw n refl

  -- ---- 12, then 11, of all names

  -- of whatever text has so many bytes, without ends, which is 11. Fails: a limit of one less, 11 before 12
  long_text : (xs : List ℕ)
      → (length xs ≡ 16777216 → pad_write (pad_of_two rest) xs [] 0 ≡ refused 11 0 0)
      × (length xs ≡ 16777217 → pad_write (pad_of_two rest) xs [] 0 ≡ refused 12 0 0)
  unfolding writing_out
  long_text xs = (λ m. rw (n, m) refl, λ m. rw (n, m) refl)

  -- and of ends. Fails: 11 for every other number of ends
  long_ends : (xs : List ℕ)
      → (length xs ≡ 16777216 → pad_write (pad_of_two rest) [] xs 0 ≡ refused 11 0 0)
      × (length xs ≡ 16777217 → pad_write (pad_of_two rest) [] xs 0 ≡ refused 12 0 0)
  unfolding writing_out
  long_ends xs = (λ m. rw (n, m) refl, λ m. rw (n, m) refl)

  -- before 10 and 13: the last name's end is wrong, and the first is not UTF-8. Fails: 10, 13
  shape_first : pad_write (pad_of_two rest) (0xFF ∷ 0xFF ∷ []) (two_ends 1 3) 0 ≡ refused 11 0 0
  unfolding writing_out
  shape_first = rw n refl

  -- ---- then the writer's refusals, sound by sound, before 13

  -- 36 without a name. Fails: a sound without a name left out, 13
  empty_name : pad_write (pad_of_two rest) snare (two_ends 0 5) 0 ≡ refused 6 6 0
  unfolding writing_out
  empty_name = rw n refl

  -- 38's name is not UTF-8. Fails: the first name alone tested
  not_text : pad_write (pad_of_two rest) (kick ++ 0xFF ∷ []) (two_ends 4 5) 0 ≡ refused 10 0 0
  unfolding writing_out
  not_text = rw n refl

  -- α cut in two, a byte for each of the two sounds. Fails: the text tested as a whole
  cut_letter : pad_write (pad_of_two rest) (0xCE ∷ 0xB1 ∷ []) (two_ends 1 2) 0 ≡ refused 10 0 0
  unfolding writing_out
  cut_letter = rw n refl

  -- names that fall, and equal ones: sounds come by number, not by name. Fails: terms sorted by name, two sounds joined to one
  names_fall : (pad_write (pad_of_two rest) (snare ++ kick) (two_ends 5 9) 0 ≡ refused 6 16 0)
      × (pad_write (pad_of_two rest) (kick ++ kick) (two_ends 4 8) 0 ≡ refused 6 16 0)
  unfolding writing_out
  names_fall = (rw n refl, rw n refl)

  -- the first sound's refusal: 36 has no name, 38's is not UTF-8; then the other way round. Fails: 10 over all names first, 6 6 first
  first_sound : (pad_write (pad_of_two rest) (0xFF ∷ []) (two_ends 0 1) 0 ≡ refused 6 6 0)
      × (pad_write (pad_of_two rest) (0xFF ∷ []) (two_ends 1 1) 0 ≡ refused 10 0 0)
  unfolding writing_out
  first_sound = (rw n refl, rw n refl)
