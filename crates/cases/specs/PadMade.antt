-- What the cases of the pad share: its words by digits, the bars that they hold. A case is of every pad of 17,154 words that begins so,
-- whatever the free words behind are (`rest`).
use Rattle.std.specs.Prelude.{ℕ, suc, zero, ◌≡◌, List, [], ◌∷◌, ◌++◌, length, replicate}
use Rattle.segment.specs.Results.{Answer}
use Rattle.pad_map.specs.Bars.{Bar, hit, bar}
use Rattle.pad_words.specs.Calls.{held_bars, pad_save, pad_erase, saved_words, erased_words}
use Rattle.pad_record.specs.Promise.{save_answer, erase_answer}

-- all zeros
abbrev pub empty : List ℕ
empty = replicate 17154 0

-- bar 1 of 4 steps, 5 on 0 with velocity 70: its word is 5 + 256 * 70
abbrev pub pad_of_1 : (rest : List ℕ) → List ℕ
pad_of_1 rest = 1 ∷ 1 ∷ 1 ∷ 4 ∷ 1 ∷ 17925 ∷ 0 ∷ rest

-- document 01's two bars, of 16 steps: 36 in bar 3 on 0, 4, 15 and in bar 7 on 2; 38 in 3 on 8, 14 and in 7 on 3, 4. No two hits have the
-- same velocity, so that a lost or exchanged one shows
abbrev pub two_bars : List Bar
two_bars =
    bar 3 16 (hit 36 0 127 ∷ hit 36 4 1 ∷ hit 36 15 64 ∷ hit 38 8 100 ∷ hit 38 14 2 ∷ [])
    ∷ bar 7 16 (hit 36 2 90 ∷ hit 38 3 33 ∷ hit 38 4 126 ∷ [])
    ∷ []

-- bar 3: 16 steps, five hits; bar 7: 16 steps, three hits. The first word of a hit is sound + 256 * velocity
abbrev pub words_of_3 : (rest : List ℕ) → List ℕ
words_of_3 rest = 3 ∷ 16 ∷ 5 ∷ 32548 ∷ 0 ∷ 292 ∷ 4 ∷ 16420 ∷ 15 ∷ 25638 ∷ 8 ∷ 550 ∷ 14 ∷ rest

abbrev pub words_of_7 : (rest : List ℕ) → List ℕ
words_of_7 rest = 7 ∷ 16 ∷ 3 ∷ 23076 ∷ 2 ∷ 8486 ∷ 3 ∷ 32294 ∷ 4 ∷ rest

-- two bars, eight hits
abbrev pub pad_of_two : (rest : List ℕ) → List ℕ
pad_of_two rest = 2 ∷ 8 ∷ words_of_3 (words_of_7 rest)

-- so many numbers, one after the other
abbrev pub count_up : (from n : ℕ) → List ℕ
count_up from zero = []
count_up from (suc n) = from ∷ count_up (suc from) n

-- ---- what a case says

-- the map that is held, or 20
abbrev pub Holds : (front : List ℕ) → Answer (List Bar) → Type 0
Holds front answer = (rest : List ℕ) → length (front ++ rest) ≡ 17154 → held_bars (front ++ rest) ≡ answer

-- saving and erasing: the reply, and the words afterwards
abbrev pub Saves : (pad : List ℕ) (id len : ℕ) (sounds steps velocities : List ℕ) → Answer ℕ → (after : List ℕ) → Type 0
Saves pad id len ss ts vs r after =
    (r ≡ save_answer (length ss) (pad_save pad id len ss ts vs)) × (after ≡ saved_words (pad_save pad id len ss ts vs) pad)

abbrev pub Erases : (pad : List ℕ) (id : ℕ) → Answer ℕ → (after : List ℕ) → Type 0
Erases pad id r after = (r ≡ erase_answer (pad_erase pad id)) × (after ≡ erased_words id (pad_erase pad id) pad)
