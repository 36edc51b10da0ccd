-- Velocities on the pad (document 02, wish 9): a third list, from 1 to 127; 22 comes after sounds and before hit order. A hit's first word
-- is sound + 256 * velocity.
use Rattle.cases.specs.Digits.{refusal_of, refused}
use Rattle.std.specs.Prelude.{Err, Ok, ℕ, ◌≡◌, List, [], ◌∷◌, ◌++◌, length, replicate, drop}
use Rattle.std.proofs.Math.Path.{refl}
use Rattle.segment.specs.Results.{Answer}
use Rattle.pad_map.specs.Bars.{Bar, hit, bar}
use Rattle.pad_words.specs.Calls.{pad_save, pad_erase, pad_read, pad_write}
use Rattle.pad_read.specs.Promise.{BarReadBack}
use Rattle.pad_read.specs.Counter.{pad_hits}
use Rattle.cases.specs.Through.{recording, writing_out}
use Rattle.cases.specs.Segments.{kick, snare, segment_of_two}
use Rattle.cases.specs.PadMade.{pad_of_1, pad_of_two, Holds, Saves, Erases}

-- ---- two accents in one bar: bar 1 of 8 steps, 36 on 0 with velocity 127 and on 4 with velocity 1

abbrev accents : (rest : List ℕ) → List ℕ
accents rest = 1 ∷ 2 ∷ 1 ∷ 8 ∷ 2 ∷ 32548 ∷ 0 ∷ 292 ∷ 4 ∷ rest

-- Fails: velocity in the step's word, or in a word of its own; the first hit's velocity for all, velocities from the last hit on
saved_1 : (rest : List ℕ) → length (0 ∷ 0 ∷ rest) ≡ 17154
    → Saves (0 ∷ 0 ∷ rest) 1 8 (36 ∷ 36 ∷ []) (0 ∷ 4 ∷ []) (127 ∷ 1 ∷ []) (Ok 2) (accents (drop 7 rest))
unfolding recording
saved_1 rest n = (rw n refl, rw n refl)

-- 36 alone has a name
abbrev kick_ends : List ℕ
kick_ends = replicate 36 0 ++ replicate 92 4

-- bar 1 written out as kick, byte by byte
abbrev segment_of_1 : List ℕ
segment_of_1 =
    0x50 ∷ 0x53 ∷ 0x54 ∷ 0x50 ∷ 0x30 ∷ 0x30 ∷ 0x30 ∷ 0x31 ∷ 0x02 ∷ 0x00 ∷ 0x00 ∷ 0x00 ∷ 0x00 ∷ 0x00 ∷ 0x00 ∷ 0x00  -- magic; version, flags
    ∷ 0x01 ∷ 0x00 ∷ 0x00 ∷ 0x00 ∷ 0x01 ∷ 0x00 ∷ 0x00 ∷ 0x00  -- documents, terms
    ∷ 0x20 ∷ 0x00 ∷ 0x00 ∷ 0x00 ∷ 0x00 ∷ 0x00 ∷ 0x00 ∷ 0x00 ∷ 0x04 ∷ 0x00 ∷ 0x00 ∷ 0x00 ∷ 0x00 ∷ 0x00 ∷ 0x00 ∷ 0x00  -- four lengths
    ∷ 0x02 ∷ 0x00 ∷ 0x00 ∷ 0x00 ∷ 0x00 ∷ 0x00 ∷ 0x00 ∷ 0x00 ∷ 0x04 ∷ 0x00 ∷ 0x00 ∷ 0x00 ∷ 0x00 ∷ 0x00 ∷ 0x00 ∷ 0x00
    ∷ 0xC2 ∷ 0x5A ∷ 0x95 ∷ 0xED ∷ 0x05 ∷ 0xDF ∷ 0xD5 ∷ 0x1E ∷ 0x8C ∷ 0xAB ∷ 0x19 ∷ 0x56 ∷ 0x0E ∷ 0xA8 ∷ 0x11 ∷ 0x9D  -- four checksums
    ∷ 0x00 ∷ 0x00 ∷ 0x00 ∷ 0x00 ∷ 0x04 ∷ 0x00 ∷ 0x00 ∷ 0x00 ∷ 0x00 ∷ 0x00 ∷ 0x00 ∷ 0x00 ∷ 0x00 ∷ 0x00 ∷ 0x00 ∷ 0x00  -- the entry of kick
    ∷ 0x04 ∷ 0x00 ∷ 0x00 ∷ 0x00 ∷ 0x00 ∷ 0x00 ∷ 0x00 ∷ 0x00 ∷ 0x01 ∷ 0x00 ∷ 0x00 ∷ 0x00 ∷ 0x0E ∷ 0xA8 ∷ 0x11 ∷ 0x9D
    ∷ 0x6B ∷ 0x69 ∷ 0x63 ∷ 0x6B  -- names
    ∷ 0x01 ∷ 0x08  -- metadata
    ∷ 0x01 ∷ 0x02 ∷ 0x00 ∷ 0x04  -- postings
    ∷ []

module _ (rest : List ℕ) (n : length (accents rest) ≡ 17154) where
  -- velocity 0: refused, and every word stays. Fails: 0 taken for a hit that is not there, or for a velocity that is not given
  silent : Saves (accents rest) 2 8 (36 ∷ []) (0 ∷ []) (0 ∷ []) (Err (refusal_of 22 0 0))
      (accents rest)
  unfolding recording
  silent = (rw n refl, rw n refl)

  -- the last sound is too high, the first velocity too: all sounds first. Fails: hit by hit, 22
  sounds_first : pad_save (accents rest) 2 8 (36 ∷ 128 ∷ []) (0 ∷ 0 ∷ []) (128 ∷ 64 ∷ []) ≡ refused 12 0 0
  unfolding recording
  sounds_first = rw n refl

  -- hits that fall. Fails: 6 20
  before_order : pad_save (accents rest) 2 8 (36 ∷ 36 ∷ []) (4 ∷ 0 ∷ []) (128 ∷ 64 ∷ []) ≡ refused 22 0 0
  unfolding recording
  before_order = rw n refl

  -- equal hits, the second louder; the first louder. Fails: velocity in the order of hits, the loudest kept
  equal_hits : (pad_save (accents rest) 2 8 (36 ∷ 36 ∷ []) (4 ∷ 4 ∷ []) (64 ∷ 65 ∷ []) ≡ refused 6 20 0)
      × (pad_save (accents rest) 2 8 (36 ∷ 36 ∷ []) (4 ∷ 4 ∷ []) (65 ∷ 64 ∷ []) ≡ refused 6 20 0)
  unfolding recording
  equal_hits = (rw n refl, rw n refl)

  -- one place for velocities: 13 3, and the three lists stay. Fails: sounds and steps filled, as many velocities as go, 13 2
  no_room : BarReadBack (accents rest) 1 (replicate 2 0xAA) (replicate 2 0xAA) (replicate 1 0xAA)
      (Err (refusal_of 13 3 2))
      (replicate 2 0xAA)
      (replicate 2 0xAA)
      (replicate 1 0xAA)
  unfolding recording
  no_room = record { reply = rw n refl; sounds_left = rw n refl; steps_left = rw n refl; velocities_left = rw n refl }

  -- Fails: velocities exchanged, a velocity left in the sound
  read_back : BarReadBack (accents rest) 1 (replicate 2 0xAA) (replicate 2 0xAA) (replicate 2 0xAA) (Ok (record { hits = 2; len = 8 }))
      (36 ∷ 36 ∷ [])
      (0 ∷ 4 ∷ [])
      (127 ∷ 1 ∷ [])
  unfolding recording
  read_back = record { reply = rw n refl; sounds_left = rw n refl; steps_left = rw n refl; velocities_left = rw n refl }

  -- the three lists in their order, and 16 before them. Fails: velocities before steps, before sounds; 13 3 of an unknown bar
  rooms : (pad_read (accents rest) 1 2 1 1 ≡ refused 13 2 2)
      × (pad_read (accents rest) 1 1 2 1 ≡ refused 13 1 2)
      × (pad_read (accents rest) 2 9 9 0 ≡ refused 16 0 0)
  unfolding recording
  rooms = (rw n refl, rw n refl, rw n refl)

  -- 114 bytes, without velocities: one place less, exactly as many. Fails: velocities among the positions
  written : (pad_write (accents rest) kick kick_ends 113 ≡ refused 13 1 114)
      × (pad_write (accents rest) kick kick_ends 114 ≡ Ok segment_of_1)
  unfolding writing_out
  written = (rw n refl, rw n refl)

-- ---- saving into a pad that holds bar 1

module _ (rest : List ℕ) (n : length (pad_of_1 rest) ≡ 17154) where
  abbrev saved : (id len : ℕ) (sounds steps velocities : List ℕ) → Answer (List Bar)
  saved = pad_save (pad_of_1 rest)

  -- 1 and 127. Fails: a range from 2 on, up to 126
  range : saved 2 4 (5 ∷ 5 ∷ []) (0 ∷ 1 ∷ []) (1 ∷ 127 ∷ [])
      ≡ Ok (bar 1 4 (hit 5 0 70 ∷ []) ∷ bar 2 4 (hit 5 0 1 ∷ hit 5 1 127 ∷ []) ∷ [])
  unfolding recording
  range = rw n refl

  -- 0, 128, 255. Fails: a range from 0 on, up to 128, every byte but 0; the velocity as index
  out_of_range : (saved 2 4 (5 ∷ []) (0 ∷ []) (0 ∷ []) ≡ refused 22 0 0)
      × (saved 2 4 (5 ∷ []) (0 ∷ []) (128 ∷ []) ≡ refused 22 0 0)
      × (saved 2 4 (5 ∷ []) (0 ∷ []) (255 ∷ []) ≡ refused 22 0 0)
  unfolding recording
  out_of_range = (rw n refl, rw n refl, rw n refl)

  -- the last hit's alone. Fails: the first hit alone tested; the hit's place as index
  last_velocity : (saved 2 4 (5 ∷ 5 ∷ 6 ∷ []) (0 ∷ 1 ∷ 2 ∷ []) (1 ∷ 127 ∷ 0 ∷ []) ≡ refused 22 0 0)
      × (saved 2 4 (5 ∷ 5 ∷ 6 ∷ []) (0 ∷ 1 ∷ 2 ∷ []) (1 ∷ 127 ∷ 128 ∷ []) ≡ refused 22 0 0)
  unfolding recording
  last_velocity = (rw n refl, rw n refl)

  -- behind equal hits; behind a step past the length. Fails: hit by hit, 6 20; 6 21
  all_velocities : (saved 2 4 (5 ∷ 5 ∷ 6 ∷ []) (1 ∷ 1 ∷ 2 ∷ []) (1 ∷ 127 ∷ 0 ∷ []) ≡ refused 22 0 0)
      × (saved 2 4 (5 ∷ 6 ∷ []) (9 ∷ 2 ∷ []) (1 ∷ 128 ∷ []) ≡ refused 22 0 0)
  unfolding recording
  all_velocities = (rw n refl, rw n refl)

  -- ---- the third list: 12, then 11, before all velocities

  -- without sounds and steps, with one of each. Fails: velocities not tested, 11 before 12, a limit of one less
  long_velocities : (xs : List ℕ)
      → (length xs ≡ 16777216 → saved 2 4 [] [] xs ≡ refused 11 0 0)
      × (length xs ≡ 16777217 → saved 2 4 [] [] xs ≡ refused 12 0 0)
      × (length xs ≡ 16777217 → saved 2 4 (5 ∷ []) (0 ∷ []) xs ≡ refused 12 0 0)
  unfolding recording
  long_velocities xs = (λ m. rw (n, m) refl, λ m. rw (n, m) refl, λ m. rw (n, m) refl)

  -- one fewer than sounds and steps, one more, one of no hit's, none. Fails: the shortest list's hits saved, 127 for want of one
  uneven : (saved 2 4 (5 ∷ 6 ∷ []) (0 ∷ 1 ∷ []) (1 ∷ []) ≡ refused 11 0 0)
      × (saved 2 4 (5 ∷ 6 ∷ []) (0 ∷ 1 ∷ []) (1 ∷ 2 ∷ 3 ∷ []) ≡ refused 11 0 0)
      × (saved 2 4 [] [] (1 ∷ []) ≡ refused 11 0 0)
      × (saved 2 4 (5 ∷ []) (0 ∷ []) [] ≡ refused 11 0 0)
  unfolding recording
  uneven = (rw n refl, rw n refl, rw n refl, rw n refl)

  -- whatever stands in them: velocity 0, sound 128. Fails: 22, 12
  uneven_first : (saved 2 4 (5 ∷ []) (0 ∷ []) (0 ∷ 0 ∷ []) ≡ refused 11 0 0)
      × (saved 2 4 (5 ∷ 128 ∷ []) (0 ∷ 1 ∷ []) (0 ∷ []) ≡ refused 11 0 0)
  unfolding recording
  uneven_first = (rw n refl, rw n refl)

  -- 18 before all of these: velocity 0, one velocity more, too many. Fails: 22, 11, 12
  held_first : (saved 1 4 (5 ∷ []) (0 ∷ []) (0 ∷ []) ≡ refused 18 0 0)
      × (saved 1 4 (5 ∷ []) (0 ∷ []) (1 ∷ 2 ∷ []) ≡ refused 18 0 0)
      × ((xs : List ℕ) → length xs ≡ 16777217 → saved 1 4 [] [] xs ≡ refused 18 0 0)
  unfolding recording
  held_first = (rw n refl, rw n refl, λ xs m. rw n refl)

-- ---- words: a held velocity outside the range is 20

-- bar 3 with one hit, of this word; bar 7 with two, the last of that word
abbrev with_words : (first last : ℕ) → List ℕ
with_words x y = 2 ∷ 3 ∷ 3 ∷ 4 ∷ 1 ∷ x ∷ 0 ∷ 7 ∷ 4 ∷ 2 ∷ 261 ∷ 1 ∷ y ∷ 2 ∷ []

-- such a word is 20 in the first bar, and in the last
abbrev Breaks : (word : ℕ) → Type 0
Breaks w = Holds (with_words w 262) (refused 20 0 0) × Holds (with_words 262 w) (refused 20 0 0)

-- 5 with velocity 1, 6 with 127. Fails: a range from 2 on, up to 126, a velocity that is read from the step's word
held_range : Holds (with_words 261 32518) (Ok (bar 3 4 (hit 5 0 1 ∷ []) ∷ bar 7 4 (hit 5 1 1 ∷ hit 6 2 127 ∷ []) ∷ []))
unfolding recording
held_range rest n = rw n refl

-- 6 with velocity 0. Fails: velocities not tested, a range from 0 on, the first bar or the first hit alone tested
held_0 : Breaks 6
unfolding recording
held_0 = (λ rest n. rw n refl, λ rest n. rw n refl)

-- with 128, 255. Fails: a range up to 128; every byte but 0
held_128 : Breaks 32774 × Breaks 65286
unfolding recording
held_128 = ((λ rest n. rw n refl, λ rest n. rw n refl), (λ rest n. rw n refl, λ rest n. rw n refl))

-- 6 with velocity 1, and 65536, 65536 * 256, 65536 * 32768 more. Fails: the low 16 bits of the word alone looked at, the low 24, 31
high_bits : Breaks 65798 × Breaks 16777478 × Breaks 2147483910
unfolding recording
high_bits = (
  (λ rest n. rw n refl, λ rest n. rw n refl),
  (λ rest n. rw n refl, λ rest n. rw n refl),
  (λ rest n. rw n refl, λ rest n. rw n refl),
)

-- equal hits, the second louder, the first louder. Fails: words held against each other in place of sounds
held_twice : Holds (1 ∷ 2 ∷ 3 ∷ 4 ∷ 2 ∷ 261 ∷ 1 ∷ 517 ∷ 1 ∷ []) (refused 20 0 0)
    × Holds (1 ∷ 2 ∷ 3 ∷ 4 ∷ 2 ∷ 517 ∷ 1 ∷ 261 ∷ 1 ∷ []) (refused 20 0 0)
unfolding recording
held_twice = (λ rest n. rw n refl, λ rest n. rw n refl)

-- a sound that rises, and falls in velocity; a sound that falls, and rises in velocity. Fails: the order by words
sounds_by_number : Holds (1 ∷ 2 ∷ 3 ∷ 4 ∷ 2 ∷ 517 ∷ 1 ∷ 262 ∷ 0 ∷ []) (Ok (bar 3 4 (hit 5 1 2 ∷ hit 6 0 1 ∷ []) ∷ []))
    × Holds (1 ∷ 2 ∷ 3 ∷ 4 ∷ 2 ∷ 262 ∷ 0 ∷ 517 ∷ 1 ∷ []) (refused 20 0 0)
unfolding recording
sounds_by_number = (λ rest n. rw n refl, λ rest n. rw n refl)

-- ---- a pad that was recorded before there were velocities

-- document 01's two bars, a sound alone in each hit's first word. Fails: velocity 0 taken for one that was not given
without_velocities :
    Holds (2 ∷ 8 ∷ 3 ∷ 16 ∷ 5 ∷ 36 ∷ 0 ∷ 36 ∷ 4 ∷ 36 ∷ 15 ∷ 38 ∷ 8 ∷ 38 ∷ 14 ∷ 7 ∷ 16 ∷ 3 ∷ 36 ∷ 2 ∷ 38 ∷ 3 ∷ 38 ∷ 4 ∷ []) (refused 20 0 0)
unfolding recording
without_velocities rest n = rw n refl

-- bars without hits go on, and take hits. Fails: 20
bars_without_hits : (rest : List ℕ) → length (2 ∷ 0 ∷ 3 ∷ 16 ∷ 0 ∷ 7 ∷ 16 ∷ 0 ∷ rest) ≡ 17154
    → Saves (2 ∷ 0 ∷ 3 ∷ 16 ∷ 0 ∷ 7 ∷ 16 ∷ 0 ∷ rest) 5 4 (36 ∷ []) (2 ∷ []) (100 ∷ []) (Ok 1)
    (3 ∷ 1 ∷ 3 ∷ 16 ∷ 0 ∷ 5 ∷ 4 ∷ 1 ∷ 25636 ∷ 2 ∷ 7 ∷ 16 ∷ 0 ∷ drop 5 rest)
unfolding recording
bars_without_hits rest n = (rw n refl, rw n refl)

-- one hit of velocity 0: 20 in each of the calls that test, whether they look at velocities or not. Fails: the bar read, erased or written,
-- another saved; 20 of the counter
every_call : (rest : List ℕ) → length (1 ∷ 1 ∷ 1 ∷ 4 ∷ 1 ∷ 36 ∷ 0 ∷ rest) ≡ 17154
    → (pad_save (1 ∷ 1 ∷ 1 ∷ 4 ∷ 1 ∷ 36 ∷ 0 ∷ rest) 2 4 (5 ∷ []) (0 ∷ []) (1 ∷ []) ≡ refused 20 0 0)
    × (pad_erase (1 ∷ 1 ∷ 1 ∷ 4 ∷ 1 ∷ 36 ∷ 0 ∷ rest) 1 ≡ refused 20 0 0)
    × (pad_read (1 ∷ 1 ∷ 1 ∷ 4 ∷ 1 ∷ 36 ∷ 0 ∷ rest) 1 1 1 1 ≡ refused 20 0 0)
    × (pad_write (1 ∷ 1 ∷ 1 ∷ 4 ∷ 1 ∷ 36 ∷ 0 ∷ rest) kick kick_ends 200 ≡ refused 20 0 0)
    × (pad_hits (1 ∷ 1 ∷ 1 ∷ 4 ∷ 1 ∷ 36 ∷ 0 ∷ rest) ≡ 1)
unfolding writing_out
every_call rest n = (rw n refl, rw n refl, rw n refl, rw n refl, refl)

-- ---- velocities go with their bar: bar 3 has 36 with 127, bar 7 has 36 with 1 and 38 with 64

-- bar 7 moves down. Fails: sounds moved without velocities, velocities that stay with the place
moved_down : (rest : List ℕ) → length (2 ∷ 3 ∷ 3 ∷ 4 ∷ 1 ∷ 32548 ∷ 0 ∷ 7 ∷ 4 ∷ 2 ∷ 292 ∷ 1 ∷ 16422 ∷ 2 ∷ rest) ≡ 17154
    → Erases (2 ∷ 3 ∷ 3 ∷ 4 ∷ 1 ∷ 32548 ∷ 0 ∷ 7 ∷ 4 ∷ 2 ∷ 292 ∷ 1 ∷ 16422 ∷ 2 ∷ rest) 3 (Ok 1)
    (1 ∷ 2 ∷ 7 ∷ 4 ∷ 2 ∷ 292 ∷ 1 ∷ 16422 ∷ 2 ∷ 2 ∷ 292 ∷ 1 ∷ 16422 ∷ 2 ∷ rest)
unfolding recording
moved_down rest n = (rw n refl, rw n refl)

-- bar 7 moves up, to make room for bar 3. Fails: bar 3's velocity for the hits behind it, velocities that stay with the place
moved_up : (rest : List ℕ) → length (1 ∷ 2 ∷ 7 ∷ 4 ∷ 2 ∷ 292 ∷ 1 ∷ 16422 ∷ 2 ∷ rest) ≡ 17154
    → Saves (1 ∷ 2 ∷ 7 ∷ 4 ∷ 2 ∷ 292 ∷ 1 ∷ 16422 ∷ 2 ∷ rest) 3 4 (36 ∷ []) (0 ∷ []) (127 ∷ []) (Ok 1)
    (2 ∷ 3 ∷ 3 ∷ 4 ∷ 1 ∷ 32548 ∷ 0 ∷ 7 ∷ 4 ∷ 2 ∷ 292 ∷ 1 ∷ 16422 ∷ 2 ∷ drop 5 rest)
unfolding recording
moved_up rest n = (rw n refl, rw n refl)

-- ---- written bytes depend on sound and step only

-- document 01's two bars with velocity 1 in all hits, and as they are in the other cases. Fails: a velocity written, quiet hits left out
written_alike : (rest : List ℕ) → length (pad_of_two rest) ≡ 17154
    → (pad_write (2 ∷ 8 ∷ 3 ∷ 16 ∷ 5 ∷ 292 ∷ 0 ∷ 292 ∷ 4 ∷ 292 ∷ 15 ∷ 294 ∷ 8 ∷ 294 ∷ 14
    ∷ 7 ∷ 16 ∷ 3 ∷ 292 ∷ 2 ∷ 294 ∷ 3 ∷ 294 ∷ 4 ∷ rest) (kick ++ snare) (replicate 36 0 ++ 4 ∷ 4 ∷ replicate 90 9) 165 ≡ Ok segment_of_two)
    × (pad_write (pad_of_two rest) (kick ++ snare) (replicate 36 0 ++ 4 ∷ 4 ∷ replicate 90 9) 165 ≡ Ok segment_of_two)
unfolding writing_out
written_alike rest n = (rw n refl, rw n refl)
