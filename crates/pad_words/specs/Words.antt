-- How a map is held in words: word 0 is the number of bars, word 1 the number of their hits; then the bars by rising id, one behind the
-- other, each with id, length, number of hits, and its hits; a hit is two words, sound + 256 * velocity, step. What lies behind the last
-- bar is free.
use Rattle.std.specs.Prelude.{ℕ, zero, suc, ◌+◌, ◌*◌, ◌/◌, ◌%◌, List, [], ◌∷◌, ◌++◌, length, drop, get_or}
use Rattle.pad_map.specs.Bars.{Hit, Bar, hit, bar, hits_in_all}

-- 2 words, 3 for each of 256 bars, 2 for each of 8,192 hits
abbrev pub pad_words : ℕ
pad_words = 17154

-- ---- the words of a map

abbrev pub hit_words : List Hit → List ℕ
hit_words [] = []
hit_words (h ∷ hs) = (h.sound + 256 * h.velocity) ∷ (h.step ∷ hit_words hs)

unfoldable pub bar_words : List Bar → List ℕ
bar_words [] = []
bar_words (b ∷ bs) = b.id ∷ (b.len ∷ (length b.hits ∷ (hit_words b.hits ++ bar_words bs)))

-- how many words the bars take
abbrev pub size : List Bar → ℕ
size [] = 0
size (b ∷ bs) = 3 + 2 * length b.hits + size bs

-- the words of a pad that holds these bars; free places are as they were
unfoldable pub stored : List Bar → (pad : List ℕ) → List ℕ
stored bars pad = length bars ∷ (hits_in_all bars ∷ (bar_words bars ++ drop (2 + size bars) pad))

-- ---- the map that words hold, whatever they are

-- the hit of two words
abbrev pub hit_at : (first second : ℕ) → Hit
hit_at w t = hit (w % 256) t (w / 256)

unfoldable pub hits_of : (count : ℕ) → List ℕ → List Hit
hits_of zero ws = []
hits_of (suc n) ws = hit_at (get_or ws 0 0) (get_or ws 1 0) ∷ hits_of n (drop 2 ws)

unfoldable pub bars_of : (count : ℕ) → List ℕ → List Bar
bars_of zero ws = []
bars_of (suc n) ws =
    bar (get_or ws 0 0) (get_or ws 1 0) (hits_of (get_or ws 2 0) (drop 3 ws)) ∷ bars_of n (drop (3 + 2 * get_or ws 2 0) ws)

unfoldable pub held : (pad : List ℕ) → List Bar
held pad = bars_of (get_or pad 0 0) (drop 2 pad)
