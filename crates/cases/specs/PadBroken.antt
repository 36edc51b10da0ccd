-- Kind 20 (document 02, wish 6), before all else: which words are a pad, and the map that these hold. Hits by digits have velocity 1, so
-- that a first word is 256 more than its sound, but for those of PadMade.antt; other velocities are in PadVelocities.antt.
use Rattle.std.specs.Prelude.{Ok, ℕ, ◌≡◌, true, false, List, [], ◌∷◌, map, length, replicate, drop}
use Rattle.std.proofs.Math.Path.{refl}
use Rattle.pad_map.specs.Bars.{Bar, hit, bar}
use Rattle.pad_words.specs.Words.{stored}
use Rattle.pad_words.specs.Whole.{whole}
use Rattle.pad_words.specs.Calls.{held_bars, pad_save, pad_erase, pad_read, pad_write}
use Rattle.cases.specs.Through.{recording, writing_out}
use Rattle.cases.specs.Digits.{refused}
use Rattle.cases.specs.PadMade.{empty, two_bars, pad_of_1, words_of_3, words_of_7, pad_of_two, count_up, Holds}

-- ---- the words of a map, and the map of words

-- Fails: another order of the words, a count left out, zeros stored behind the bars
two_stored : (pad : List ℕ) → stored two_bars pad ≡ pad_of_two (drop 24 pad)
unfolding recording
two_stored pad = refl

-- ---- a slice of another length

-- Fails: as many words as the bars take
one_word_less : held_bars (1 ∷ 1 ∷ 1 ∷ 4 ∷ 1 ∷ 261 ∷ 0 ∷ replicate 17146 0) ≡ refused 20 0 0
unfolding recording
one_word_less = refl

-- Fails: words behind the pad's not minded
one_word_more : held_bars (1 ∷ 1 ∷ 1 ∷ 4 ∷ 1 ∷ 261 ∷ 0 ∷ replicate 17148 0) ≡ refused 20 0 0
unfolding recording
one_word_more = refl

-- Fails: no words taken for an empty pad
no_words : held_bars [] ≡ refused 20 0 0
unfolding recording
no_words = refl

-- ---- an id twice, ids that fall

-- bar 3 twice. Fails: the first of the two found
id_twice : Holds (2 ∷ 2 ∷ 3 ∷ 4 ∷ 1 ∷ 261 ∷ 0 ∷ 3 ∷ 4 ∷ 1 ∷ 262 ∷ 0 ∷ []) (refused 20 0 0)
unfolding recording
id_twice rest n = rw n refl

-- bar 7 before bar 3: no call makes it. Fails: a bar that is not found where it is looked for
ids_fall : Holds (2 ∷ 2 ∷ 7 ∷ 4 ∷ 1 ∷ 261 ∷ 0 ∷ 3 ∷ 4 ∷ 1 ∷ 262 ∷ 0 ∷ []) (refused 20 0 0)
unfolding recording
ids_fall rest n = rw n refl

-- ---- a bar whose hits break the rules for saving: the first bar's or the last's

-- sound 128. Fails: sounds not tested, the first hit alone tested
sound_128 : Holds (1 ∷ 2 ∷ 3 ∷ 4 ∷ 2 ∷ 261 ∷ 0 ∷ 384 ∷ 0 ∷ []) (refused 20 0 0)
unfolding recording
sound_128 rest n = rw n refl

-- equal hits. Fails: `<=` for `<`
equal_hits : Holds (1 ∷ 2 ∷ 3 ∷ 4 ∷ 2 ∷ 261 ∷ 1 ∷ 261 ∷ 1 ∷ []) (refused 20 0 0)
unfolding recording
equal_hits rest n = rw n refl

-- a sound that falls. Fails: the order by step
sound_falls : Holds (1 ∷ 2 ∷ 3 ∷ 4 ∷ 2 ∷ 262 ∷ 0 ∷ 261 ∷ 1 ∷ []) (refused 20 0 0)
unfolding recording
sound_falls rest n = rw n refl

-- step 4 of 4 steps, in the second bar. Fails: `<=` for `<`, the first bar alone tested
step_4 : Holds (2 ∷ 2 ∷ 3 ∷ 4 ∷ 1 ∷ 261 ∷ 0 ∷ 7 ∷ 4 ∷ 1 ∷ 261 ∷ 4 ∷ []) (refused 20 0 0)
unfolding recording
step_4 rest n = rw n refl

-- each bar begins anew: bar 7's first hit need not come behind bar 3's last. Fails: 20
begins_anew : Holds (2 ∷ 2 ∷ 3 ∷ 4 ∷ 1 ∷ 265 ∷ 3 ∷ 7 ∷ 4 ∷ 1 ∷ 261 ∷ 0 ∷ []) (Ok (bar 3 4 (hit 9 3 1 ∷ []) ∷ bar 7 4 (hit 5 0 1 ∷ []) ∷ []))
unfolding recording
begins_anew rest n = rw n refl

-- ---- the number of hits

-- one more than the bar has. Fails: hits of no bar's
hits_of_no_bar : Holds (1 ∷ 2 ∷ 3 ∷ 4 ∷ 1 ∷ 261 ∷ 0 ∷ 261 ∷ 1 ∷ []) (refused 20 0 0)
unfolding recording
hits_of_no_bar rest n = rw n refl

-- one fewer. Fails: a hit in a place that the pad does not have
hit_too_many : Holds (1 ∷ 1 ∷ 3 ∷ 4 ∷ 2 ∷ 261 ∷ 0 ∷ 261 ∷ 1 ∷ []) (refused 20 0 0)
unfolding recording
hit_too_many rest n = rw n refl

-- the first bar has them all, the second one more. Fails: each bar's count held against the total
more_in_the_second : Holds (2 ∷ 2 ∷ 3 ∷ 4 ∷ 2 ∷ 261 ∷ 0 ∷ 261 ∷ 1 ∷ 7 ∷ 4 ∷ 1 ∷ 261 ∷ 0 ∷ []) (refused 20 0 0)
unfolding recording
more_in_the_second rest n = rw n refl

-- hits without a bar. Fails: an empty pad not tested
hits_without_bars : Holds (0 ∷ 1 ∷ []) (refused 20 0 0)
unfolding recording
hits_without_bars rest n = rw n refl

-- more than the pad has places, in a bar. Fails: words read behind the pad's
count_9000 : held_bars (1 ∷ 1 ∷ 3 ∷ 4 ∷ 9000 ∷ 261 ∷ 0 ∷ replicate 17147 0) ≡ refused 20 0 0
unfolding recording
count_9000 = refl

-- one bar less than before: the hits of bar 7 are no bar's; with the hits of bar 3 alone its words are free. Fails: free words looked at
bar_7_left_out : (rest : List ℕ) → length (pad_of_two rest) ≡ 17154
    → (held_bars (1 ∷ 8 ∷ words_of_3 (words_of_7 rest)) ≡ refused 20 0 0)
    × (held_bars (1 ∷ 5 ∷ words_of_3 (words_of_7 rest))
    ≡ Ok (bar 3 16 (hit 36 0 127 ∷ hit 36 4 1 ∷ hit 36 15 64 ∷ hit 38 8 100 ∷ hit 38 14 2 ∷ []) ∷ []))
unfolding recording
bar_7_left_out rest n = (rw n refl, rw n refl)

-- ---- the two limits

-- bars of so many ids from 0 on, without steps and hits
abbrev bars_up_to : ℕ → List Bar
bars_up_to n = map (λ i. bar i 0 []) (count_up 0 n)

-- 256 bars are a pad, 257 are not. Fails: `<` for `<=`, a limit of 257
bars_256 : (whole (stored (bars_up_to 256) empty) ≡ true) × (whole (stored (bars_up_to 257) empty) ≡ false)
unfolding recording
bars_256 = (refl, refl)

-- one bar with sound 0 on so many steps
abbrev steps_up_to : ℕ → List Bar
steps_up_to n = bar 0 n (map (λ t. hit 0 t 127) (count_up 0 n)) ∷ []

-- 8,192 hits are a pad, 8,193 are not. Fails: `<` for `<=`, a limit of 8,193
hits_8192 : (whole (stored (steps_up_to 8192) empty) ≡ true) × (whole (stored (steps_up_to 8193) empty) ≡ false)
unfolding recording
hits_8192 = (refl, refl)

-- ---- before all else, in each of the calls: on a pad with bar 1 and a total of 2

module _ (rest : List ℕ) (n : length (pad_of_1 rest) ≡ 17154) where
  abbrev broken : List ℕ
  broken = 1 ∷ 2 ∷ 1 ∷ 4 ∷ 1 ∷ 17925 ∷ 0 ∷ rest

  -- an id that is held, lists that differ; velocity 0. Fails: 18, 11; 22
  save_first : (pad_save broken 1 4 (5 ∷ 6 ∷ []) (0 ∷ []) (1 ∷ []) ≡ refused 20 0 0)
      × (pad_save broken 2 4 (5 ∷ []) (0 ∷ []) (0 ∷ []) ≡ refused 20 0 0)
  unfolding recording
  save_first = (rw n refl, rw n refl)

  -- an unknown id, a known one. Fails: 16; the bar erased
  erase_first : (pad_erase broken 2 ≡ refused 20 0 0) × (pad_erase broken 1 ≡ refused 20 0 0)
  unfolding recording
  erase_first = (rw n refl, rw n refl)

  -- an unknown id, no room. Fails: 16, 13; the bar read
  read_first : (pad_read broken 2 0 0 0 ≡ refused 20 0 0)
      × (pad_read broken 1 0 0 0 ≡ refused 20 0 0)
      × (pad_read broken 1 9 9 9 ≡ refused 20 0 0)
  unfolding recording
  read_first = (rw n refl, rw n refl, rw n refl)

  -- no ends, no room. Fails: 11, 13
  write_first : pad_write broken [] [] 0 ≡ refused 20 0 0
  unfolding writing_out
  write_first = rw n refl
