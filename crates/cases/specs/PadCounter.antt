-- The number of hits on the display (document 02, wish 7): word 1 as stored, of any words.
use Rattle.std.specs.Prelude.{ℕ, ◌≡◌, refl, List, [], ◌∷◌, length}
use Rattle.pad_words.specs.Calls.{held_bars, pad_save, pad_erase, saved_words, erased_words}
use Rattle.pad_read.specs.Counter.{pad_hits}
use Rattle.cases.specs.Through.{recording}
use Rattle.cases.specs.Digits.{refused}
use Rattle.cases.specs.PadMade.{empty, pad_of_1, pad_of_two}

-- ---- of pads

-- Fails: a number that must be made ready first
none_at_first : pad_hits empty ≡ 0
none_at_first = refl

-- two bars, eight hits. Fails: the number of bars, the hits of the first bar, of the last
of_two_bars : (rest : List ℕ) → pad_hits (pad_of_two rest) ≡ 8
of_two_bars rest = refl

-- bar 5 with two hits saved between them. Fails: a save that forgets the total
saved : (rest : List ℕ) → length (pad_of_two rest) ≡ 17154
    → pad_hits (saved_words (pad_save (pad_of_two rest) 5 1 (0 ∷ 127 ∷ []) (0 ∷ 0 ∷ []) (1 ∷ 127 ∷ [])) (pad_of_two rest)) ≡ 10
unfolding recording
saved rest n = rw n refl

-- bar 3 with its five erased of the two. Fails: an erasure that takes too few off
erased : (rest : List ℕ) → length (pad_of_two rest) ≡ 17154
    → pad_hits (erased_words 3 (pad_erase (pad_of_two rest) 3) (pad_of_two rest)) ≡ 3
unfolding recording
erased rest n = rw n refl

-- the only bar erased. Fails: a number that stays behind
erased_all : (rest : List ℕ) → length (pad_of_1 rest) ≡ 17154
    → pad_hits (erased_words 1 (pad_erase (pad_of_1 rest) 1) (pad_of_1 rest)) ≡ 0
unfolding recording
erased_all rest n = rw n refl

-- a bar that is held, a bar whose hits fall, one with velocity 0, one that is not held. Fails: a refused call that counts
refused_save : (rest : List ℕ) → length (pad_of_two rest) ≡ 17154
    → (pad_hits (saved_words (pad_save (pad_of_two rest) 7 4 (0 ∷ []) (0 ∷ []) (1 ∷ [])) (pad_of_two rest)) ≡ 8)
    × (pad_hits (saved_words (pad_save (pad_of_two rest) 8 4 (1 ∷ 0 ∷ []) (0 ∷ 0 ∷ []) (1 ∷ 2 ∷ [])) (pad_of_two rest)) ≡ 8)
    × (pad_hits (saved_words (pad_save (pad_of_two rest) 8 4 (1 ∷ []) (0 ∷ []) (0 ∷ [])) (pad_of_two rest)) ≡ 8)
unfolding recording
refused_save rest n = (rw n refl, rw n refl, rw n refl)

refused_erasure : (rest : List ℕ) → length (pad_of_two rest) ≡ 17154
    → pad_hits (erased_words 4 (pad_erase (pad_of_two rest) 4) (pad_of_two rest)) ≡ 8
unfolding recording
refused_erasure rest n = rw n refl

-- ---- of words that are no pad: the others answer 20, and this call what stands there

-- one bar with one hit, two stored; none stored. Fails: 1, as counted; 20
one_more : (rest : List ℕ) → length (1 ∷ 2 ∷ 1 ∷ 4 ∷ 1 ∷ 17925 ∷ 0 ∷ rest) ≡ 17154
    → (held_bars (1 ∷ 2 ∷ 1 ∷ 4 ∷ 1 ∷ 17925 ∷ 0 ∷ rest) ≡ refused 20 0 0) × (pad_hits (1 ∷ 2 ∷ 1 ∷ 4 ∷ 1 ∷ 17925 ∷ 0 ∷ rest) ≡ 2)
unfolding recording
one_more rest n = (rw n refl, refl)

one_fewer : (rest : List ℕ) → length (1 ∷ 0 ∷ 1 ∷ 4 ∷ 1 ∷ 17925 ∷ 0 ∷ rest) ≡ 17154
    → (held_bars (1 ∷ 0 ∷ 1 ∷ 4 ∷ 1 ∷ 17925 ∷ 0 ∷ rest) ≡ refused 20 0 0) × (pad_hits (1 ∷ 0 ∷ 1 ∷ 4 ∷ 1 ∷ 17925 ∷ 0 ∷ rest) ≡ 0)
unfolding recording
one_fewer rest n = (rw n refl, refl)

-- hits without a bar, above the limit, the highest word. Fails: 0, 8,192, a number with a sign
any_number : (rest : List ℕ)
    → (pad_hits (0 ∷ 1 ∷ rest) ≡ 1)
    × (pad_hits (0 ∷ 8193 ∷ rest) ≡ 8193)
    × (pad_hits (257 ∷ 4294967295 ∷ rest) ≡ 4294967295)
any_number rest = (refl, refl, refl)

-- ---- of slices of another length: the word if there is one. Fails: 20, a word behind the slice
short : (pad_hits [] ≡ 0) × (pad_hits (5 ∷ []) ≡ 0) × (pad_hits (5 ∷ 7 ∷ []) ≡ 7)
short = (refl, refl, refl)
