-- The pad (document 02, wishes 6 and 9) by its words: bars saved, read back and erased, with reply and every word afterwards.
use Rattle.cases.specs.Digits.{refusal_of, refused}
use Rattle.std.specs.Prelude.{Err, Ok, ℕ, ◌≡◌, List, [], ◌∷◌, length, replicate, drop}
use Rattle.std.proofs.Math.Path.{refl}
use Rattle.pad_map.specs.Bars.{bar}
use Rattle.pad_words.specs.Calls.{held_bars, pad_read}
use Rattle.pad_read.specs.Promise.{BarReadBack}
use Rattle.cases.specs.Through.{recording}
use Rattle.cases.specs.PadMade.{empty, two_bars, pad_of_1, words_of_3, words_of_7, pad_of_two, Saves, Erases}

-- ---- saving

-- all zeros is the empty pad. Fails: a pad that must be made ready first
nothing_held : held_bars empty ≡ Ok []
unfolding recording
nothing_held = refl

-- the first bar. Fails: another order of its words, a count in the place of the length, one of the two numbers in front left as it was, one
-- velocity for all hits
first_saved : (rest : List ℕ) → length (0 ∷ 0 ∷ rest) ≡ 17154
    → Saves (0 ∷ 0 ∷ rest) 7 16 (36 ∷ 38 ∷ 38 ∷ []) (2 ∷ 3 ∷ 4 ∷ []) (90 ∷ 33 ∷ 126 ∷ []) (Ok 3)
    (1 ∷ 3 ∷ words_of_7 (drop 9 rest))
unfolding recording
first_saved rest n = (rw n refl, rw n refl)

-- bar 3 goes before bar 7. Fails: bars in the order saved, the bar before written over
second_saved : (rest : List ℕ) → length (1 ∷ 3 ∷ words_of_7 rest) ≡ 17154
    → Saves (1 ∷ 3 ∷ words_of_7 rest) 3 16 (36 ∷ 36 ∷ 36 ∷ 38 ∷ 38 ∷ []) (0 ∷ 4 ∷ 15 ∷ 8 ∷ 14 ∷ [])
    (127 ∷ 1 ∷ 64 ∷ 100 ∷ 2 ∷ [])
    (Ok 5)
    (pad_of_two (drop 13 rest))
unfolding recording
second_saved rest n = (rw n refl, rw n refl)

-- bar 7 is held: refused, and every word stays. Fails: the bar replaced
refused_leaves : (rest : List ℕ) → length (1 ∷ 3 ∷ words_of_7 rest) ≡ 17154
    → Saves (1 ∷ 3 ∷ words_of_7 rest) 7 1 (0 ∷ []) (0 ∷ []) (1 ∷ []) (Err (refusal_of 18 0 0))
    (1 ∷ 3 ∷ words_of_7 rest)
unfolding recording
refused_leaves rest n = (rw n refl, rw n refl)

module _ (rest : List ℕ) (n : length (pad_of_1 rest) ≡ 17154) where
  -- a bar without hits and without steps is a bar. Fails: nothing saved, 6 for length 0
  without_hits : Saves (pad_of_1 rest) 2 0 [] [] [] (Ok 0) (2 ∷ 1 ∷ 1 ∷ 4 ∷ 1 ∷ 17925 ∷ 0 ∷ 2 ∷ 0 ∷ 0 ∷ drop 3 rest)
  unfolding recording
  without_hits = (rw n refl, rw n refl)

  -- the lowest id, a length and a step at the highest. Fails: an id set apart, numbers with a sign
  lowest_id : Saves (pad_of_1 rest) 0 4294967295 (5 ∷ []) (4294967294 ∷ []) (127 ∷ []) (Ok 1)
      (2 ∷ 2 ∷ 0 ∷ 4294967295 ∷ 1 ∷ 32517 ∷ 4294967294 ∷ 1 ∷ 4 ∷ 1 ∷ 17925 ∷ 0 ∷ drop 5 rest)
  unfolding recording
  lowest_id = (rw n refl, rw n refl)

  -- the highest id. Fails: an id set apart
  highest_id : Saves (pad_of_1 rest) 4294967295 1 [] [] [] (Ok 0)
      (2 ∷ 1 ∷ 1 ∷ 4 ∷ 1 ∷ 17925 ∷ 0 ∷ 4294967295 ∷ 1 ∷ 0 ∷ drop 3 rest)
  unfolding recording
  highest_id = (rw n refl, rw n refl)

  -- the only bar erased: an empty pad, whatever its free words are. Fails: words cleared
  erase_all : Erases (pad_of_1 rest) 1 (Ok 1) (0 ∷ 0 ∷ 1 ∷ 4 ∷ 1 ∷ 17925 ∷ 0 ∷ rest)
  unfolding recording
  erase_all = (rw n refl, rw n refl)

  -- an erased bar's id is free again, and its room serves the next. Fails: 18, words found behind the last bar
  saved_again : Saves (0 ∷ 0 ∷ 1 ∷ 4 ∷ 1 ∷ 17925 ∷ 0 ∷ rest) 1 8 (6 ∷ []) (7 ∷ []) (9 ∷ []) (Ok 1)
      (1 ∷ 1 ∷ 1 ∷ 8 ∷ 1 ∷ 2310 ∷ 7 ∷ rest)
  unfolding recording
  saved_again = (rw n refl, rw n refl)

module _ (rest : List ℕ) (n : length (pad_of_two rest) ≡ 17154) where
  -- these words hold the two bars. Fails: all sounds read before all steps
  two_held : held_bars (pad_of_two rest) ≡ Ok two_bars
  unfolding recording
  two_held = rw n refl

  -- bar 5 goes between the two; sounds 0 and 127, the lowest and the highest word. Fails: behind the last bar, a sound's limit of 126
  between : Saves (pad_of_two rest) 5 1 (0 ∷ 127 ∷ []) (0 ∷ 0 ∷ []) (1 ∷ 127 ∷ []) (Ok 2)
      (3 ∷ 10 ∷ words_of_3 (5 ∷ 1 ∷ 2 ∷ 256 ∷ 0 ∷ 32639 ∷ 0 ∷ words_of_7 (drop 7 rest)))
  unfolding recording
  between = (rw n refl, rw n refl)

  -- ---- reading back: how many hits and the length; places past the hits are as they were

  -- bar 3. Fails: two of the lists exchanged, the length in the place of the hits, places behind cleared, the word for the sound
  read_3 : BarReadBack (pad_of_two rest) 3 (replicate 7 0xAA) (replicate 5 0xAA) (replicate 6 0xAA) (Ok (record { hits = 5; len = 16 }))
      (36 ∷ 36 ∷ 36 ∷ 38 ∷ 38 ∷ 0xAA ∷ 0xAA ∷ [])
      (0 ∷ 4 ∷ 15 ∷ 8 ∷ 14 ∷ [])
      (127 ∷ 1 ∷ 64 ∷ 100 ∷ 2 ∷ 0xAA ∷ [])
  unfolding recording
  read_3 = record { reply = rw n refl; sounds_left = rw n refl; steps_left = rw n refl; velocities_left = rw n refl }

  -- bar 7, the second. Fails: the first bar's hits
  read_7 : BarReadBack (pad_of_two rest) 7 (replicate 3 0xAA) (replicate 4 0xAA) (replicate 3 0xAA) (Ok (record { hits = 3; len = 16 }))
      (36 ∷ 38 ∷ 38 ∷ [])
      (2 ∷ 3 ∷ 4 ∷ 0xAA ∷ [])
      (90 ∷ 33 ∷ 126 ∷ [])
  unfolding recording
  read_7 = record { reply = rw n refl; sounds_left = rw n refl; steps_left = rw n refl; velocities_left = rw n refl }

  -- room for none of the lists, one place less than bar 3 has hits: sounds first. Fails: 13 2, 13 3, the places lent as index
  no_room : pad_read (pad_of_two rest) 3 4 4 4 ≡ refused 13 1 5
  unfolding recording
  no_room = rw n refl

  -- room for sounds alone; nothing is stored. Fails: sounds filled, 13 1, 13 3
  no_room_for_steps : BarReadBack (pad_of_two rest) 3 (replicate 5 0xAA) (replicate 4 0xAA) (replicate 4 0xAA)
      (Err (refusal_of 13 2 5))
      (replicate 5 0xAA)
      (replicate 4 0xAA)
      (replicate 4 0xAA)
  unfolding recording
  no_room_for_steps = record { reply = rw n refl; sounds_left = rw n refl; steps_left = rw n refl; velocities_left = rw n refl }

  -- between two bars, and room for nothing: unknown comes first. Fails: the next bar, 13
  read_4 : pad_read (pad_of_two rest) 4 0 0 0 ≡ refused 16 0 0
  unfolding recording
  read_4 = rw n refl

  -- behind the last, though the free words may look like a bar. Fails: the last bar
  read_8 : pad_read (pad_of_two rest) 8 9 9 9 ≡ refused 16 0 0
  unfolding recording
  read_8 = rw n refl

  -- ---- erasing: how many hits the bar had; the bars behind it move to the front, and words that become free stay as they are

  -- bar 3: bar 7 moves down by 13 words. Fails: a gap, bar 7 lost, the hits left in the total, 0 answered
  erase_3 : Erases (pad_of_two rest) 3 (Ok 5) (1 ∷ 3 ∷ words_of_7 (25638 ∷ 8 ∷ 550 ∷ 14 ∷ words_of_7 rest))
  unfolding recording
  erase_3 = (rw n refl, rw n refl)

  -- bar 7, the last: two numbers change. Fails: words cleared, the first bar erased
  erase_7 : Erases (pad_of_two rest) 7 (Ok 3) (1 ∷ 5 ∷ words_of_3 (words_of_7 rest))
  unfolding recording
  erase_7 = (rw n refl, rw n refl)

  -- 16, and every word stays. Fails: the next bar erased, 0 answered
  erase_4 : Erases (pad_of_two rest) 4 (Err (refusal_of 16 0 0)) (pad_of_two rest)
  unfolding recording
  erase_4 = (rw n refl, rw n refl)

-- a bar without hits needs no room. Fails: 13, 16
read_without_hits : (rest : List ℕ) → length (1 ∷ 0 ∷ 2 ∷ 9 ∷ 0 ∷ rest) ≡ 17154
    → pad_read (1 ∷ 0 ∷ 2 ∷ 9 ∷ 0 ∷ rest) 2 0 0 0 ≡ Ok (bar 2 9 [])
unfolding recording
read_without_hits rest n = rw n refl

-- the empty pad, where the words of a bar would be zeros. Fails: bar 0 without hits
read_none : pad_read empty 0 9 9 9 ≡ refused 16 0 0
unfolding recording
read_none = refl
