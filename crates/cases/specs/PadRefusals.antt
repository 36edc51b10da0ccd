-- What saving refuses, and in which order (document 02, wish 6): 20 (PadBroken.antt); 18; 12 and 11 of the lists; then, each over all hits
-- before the next, a sound above 127, a velocity out of range (PadVelocities.antt), hit order, a step not below the length; 19 last. Bar 1
-- has 4 steps and is held.
use Rattle.std.specs.Prelude.{None, Ok, ℕ, ◌≡◌, List, [], ◌∷◌, length}
use Rattle.std.proofs.Math.Path.{refl}
use Rattle.segment.specs.Results.{Answer}
use Rattle.pad_map.specs.Bars.{Bar, hit, bar, hits_in, insert, lookup, hits_in_all}
use Rattle.pad_map.specs.Rules.{check_hits}
use Rattle.pad_map.specs.Acts.{save}
use Rattle.pad_words.specs.Calls.{pad_save}
use Rattle.cases.specs.Through.{mapping, recording}
use Rattle.cases.specs.Digits.{refused}
use Rattle.cases.specs.PadMade.{pad_of_1}

module _ (rest : List ℕ) (n : length (pad_of_1 rest) ≡ 17154) where
  -- into a pad that holds bar 1
  abbrev saved : (id len : ℕ) (sounds steps velocities : List ℕ) → Answer (List Bar)
  saved = pad_save (pad_of_1 rest)

  -- ---- 18, right after 20

  -- the same bar again. Fails: the bar replaced, the id as index
  held : saved 1 4 (5 ∷ []) (0 ∷ []) (70 ∷ []) ≡ refused 18 0 0
  unfolding recording
  held = rw n refl

  -- two sounds, one step and two velocities. Fails: 11
  held_lists : saved 1 4 (5 ∷ 6 ∷ []) (0 ∷ []) (1 ∷ 2 ∷ []) ≡ refused 18 0 0
  unfolding recording
  held_lists = rw n refl

  -- a sound above 127, hits that fall, a step past the length. Fails: 12, 6
  held_hits : saved 1 4 (128 ∷ 6 ∷ []) (0 ∷ 9 ∷ []) (1 ∷ 2 ∷ []) ≡ refused 18 0 0
  unfolding recording
  held_hits = rw n refl

  -- another id is not held. Fails: 18 for every id, for one above
  not_held : (saved 0 4 [] [] [] ≡ Ok (bar 0 4 [] ∷ bar 1 4 (hit 5 0 70 ∷ []) ∷ []))
      × (saved 2 4 [] [] [] ≡ Ok (bar 1 4 (hit 5 0 70 ∷ []) ∷ bar 2 4 [] ∷ []))
  unfolding recording
  not_held = (rw n refl, rw n refl)

  -- ---- the lists: 12, then 11. So long a list does not compute; a case is of whatever list has so many elements

  -- sounds, without steps and velocities, which is 11. Fails: sounds not tested, 11 before 12, a limit of one less
  long_sounds : (xs : List ℕ)
      → (length xs ≡ 16777216 → saved 2 4 xs [] [] ≡ refused 11 0 0) × (length xs ≡ 16777217 → saved 2 4 xs [] [] ≡ refused 12 0 0)
  unfolding recording
  long_sounds xs = (λ m. rw (n, m) refl, λ m. rw (n, m) refl)

  -- steps, without the others. Fails: steps not tested
  long_steps : (xs : List ℕ)
      → (length xs ≡ 16777216 → saved 2 4 [] xs [] ≡ refused 11 0 0) × (length xs ≡ 16777217 → saved 2 4 [] xs [] ≡ refused 12 0 0)
  unfolding recording
  long_steps xs = (λ m. rw (n, m) refl, λ m. rw (n, m) refl)

  -- 18 before both. Fails: 12
  long_held : (xs : List ℕ) → length xs ≡ 16777217 → saved 1 4 xs [] [] ≡ refused 18 0 0
  unfolding recording
  long_held xs m = rw n refl

  -- a step fewer, a step more, with as many velocities as sounds, as steps; 11 whatever stands in the lists: sound 128, equal hits. Fails:
  -- the shorter list's hits saved, velocities held against one list alone, 12, 6
  uneven : (saved 2 4 (5 ∷ 6 ∷ []) (0 ∷ []) (1 ∷ 2 ∷ []) ≡ refused 11 0 0)
      × (saved 2 4 [] (0 ∷ []) (1 ∷ []) ≡ refused 11 0 0)
      × (saved 2 4 (128 ∷ 128 ∷ []) (9 ∷ 9 ∷ 9 ∷ []) (1 ∷ 2 ∷ []) ≡ refused 11 0 0)
  unfolding recording
  uneven = (rw n refl, rw n refl, rw n refl)

  -- ---- a sound above 127, over all hits

  -- the last sound, behind hits that fall and a step past the length. Fails: 6 20, 6 21
  all_sounds_first : saved 2 4 (5 ∷ 5 ∷ 128 ∷ []) (9 ∷ 1 ∷ 0 ∷ []) (1 ∷ 2 ∷ 3 ∷ []) ≡ refused 12 0 0
  unfolding recording
  all_sounds_first = rw n refl

  -- 127 passes, 128 is 12, with zeros. Fails: `<` for `<=` at 127, the hit's place as index
  sound_127 : (saved 2 4 (127 ∷ []) (3 ∷ []) (1 ∷ []) ≡ Ok (bar 1 4 (hit 5 0 70 ∷ []) ∷ bar 2 4 (hit 127 3 1 ∷ []) ∷ []))
      × (saved 2 4 (128 ∷ []) (3 ∷ []) (1 ∷ []) ≡ refused 12 0 0)
  unfolding recording
  sound_127 = (rw n refl, rw n refl)

  -- ---- the order of hits, over all hits: 6 20 for every break of it

  -- 1 after 9, the first past the length. Fails: 6 21, 6 19
  all_order_next : saved 2 4 (5 ∷ 5 ∷ 127 ∷ []) (9 ∷ 1 ∷ 0 ∷ []) (1 ∷ 2 ∷ 3 ∷ []) ≡ refused 6 20 0
  unfolding recording
  all_order_next = rw n refl

  -- the break behind a step past the length. Fails: hit by hit, 6 21
  late_break : saved 2 16 (5 ∷ 6 ∷ 6 ∷ []) (99 ∷ 1 ∷ 0 ∷ []) (1 ∷ 2 ∷ 3 ∷ []) ≡ refused 6 20 0
  unfolding recording
  late_break = rw n refl

  -- equal hits. Fails: kept once, `<=` for `<`
  equal_hits : saved 2 4 (5 ∷ 5 ∷ []) (1 ∷ 1 ∷ []) (64 ∷ 64 ∷ []) ≡ refused 6 20 0
  unfolding recording
  equal_hits = rw n refl

  -- a sound that falls, though its step rises. Fails: the order by step
  sound_falls : saved 2 4 (6 ∷ 5 ∷ []) (0 ∷ 1 ∷ []) (1 ∷ 2 ∷ []) ≡ refused 6 20 0
  unfolding recording
  sound_falls = rw n refl

  -- two sounds on one step, and a step that falls where the sound rises. Fails: the order by step, by both
  sound_rises :
      (saved 2 4 (5 ∷ 6 ∷ []) (1 ∷ 1 ∷ []) (9 ∷ 8 ∷ []) ≡ Ok (bar 1 4 (hit 5 0 70 ∷ []) ∷ bar 2 4 (hit 5 1 9 ∷ hit 6 1 8 ∷ []) ∷ []))
      × (saved 2 4 (5 ∷ 6 ∷ []) (3 ∷ 0 ∷ []) (9 ∷ 8 ∷ []) ≡ Ok (bar 1 4 (hit 5 0 70 ∷ []) ∷ bar 2 4 (hit 5 3 9 ∷ hit 6 0 8 ∷ []) ∷ []))
  unfolding recording
  sound_rises = (rw n refl, rw n refl)

  -- ---- a step not below the length

  -- 9 in a bar of 4 steps, the last hit. Fails: the first hit alone tested
  step_9 : saved 2 4 (5 ∷ 5 ∷ []) (1 ∷ 9 ∷ []) (1 ∷ 2 ∷ []) ≡ refused 6 21 0
  unfolding recording
  step_9 = rw n refl

  -- 4 in a bar of 4 steps, and 3. Fails: `<=` for `<`, `<` against the length less one
  step_4 : (saved 2 4 (5 ∷ []) (4 ∷ []) (1 ∷ []) ≡ refused 6 21 0)
      × (saved 2 4 (5 ∷ []) (3 ∷ []) (1 ∷ []) ≡ Ok (bar 1 4 (hit 5 0 70 ∷ []) ∷ bar 2 4 (hit 5 3 1 ∷ []) ∷ []))
  unfolding recording
  step_4 = (rw n refl, rw n refl)

  -- a bar without steps has no hit. Fails: length 0 taken for none given
  no_steps : saved 2 0 (5 ∷ []) (0 ∷ []) (1 ∷ []) ≡ refused 6 21 0
  unfolding recording
  no_steps = rw n refl

-- ---- 19, last, by the two numbers alone: of whatever map has so many bars or hits and lacks the id

-- 255 bars: one more; 256: not one without hits. Fails: `<=` for `<` at 256, a bar without hits let in
bars_256 : (bars : List Bar) → lookup bars 9 ≡ None → hits_in_all bars ≡ 0
    → (length bars ≡ 255 → save bars 9 0 [] [] [] ≡ Ok (insert (bar 9 0 []) bars))
    × (length bars ≡ 256 → save bars 9 0 [] [] [] ≡ refused 19 0 0)
unfolding mapping
bars_256 bars l h = (λ n. rw (l, n, h) refl, λ n. rw (l, n) refl)

-- 8,191 hits: one more, not two. Fails: a limit of one less, of the hits held before
hits_8192 : (bars : List Bar) → lookup bars 9 ≡ None → length bars ≡ 1 → hits_in_all bars ≡ 8191
    → (save bars 9 4 (5 ∷ []) (0 ∷ []) (1 ∷ []) ≡ Ok (insert (bar 9 4 (hit 5 0 1 ∷ [])) bars))
    × (save bars 9 4 (5 ∷ 5 ∷ []) (0 ∷ 1 ∷ []) (1 ∷ 2 ∷ []) ≡ refused 19 0 0)
unfolding mapping
hits_8192 bars l n h = (rw (l, n, h) refl, rw (l, n, h) refl)

-- 8,192 hits: a bar without hits still. Fails: `<` for `<=`
hits_full : (bars : List Bar) → lookup bars 9 ≡ None → length bars ≡ 255 → hits_in_all bars ≡ 8192
    → (save bars 9 4 [] [] [] ≡ Ok (insert (bar 9 4 []) bars)) × (save bars 9 4 (5 ∷ []) (0 ∷ []) (1 ∷ []) ≡ refused 19 0 0)
unfolding mapping
hits_full bars l n h = (rw (l, n, h) refl, rw (l, n, h) refl)

-- a bar of 8,192 hits within the rules is saved in an empty pad; of 8,193 it is 19. Fails: 12, a limit on the hits of one bar
one_bar : (ss ts vs : List ℕ) → check_hits 64 ss ts vs ≡ Ok tt
    → (length ss ≡ 8192 → save [] 9 64 ss ts vs ≡ Ok (bar 9 64 (hits_in ss ts vs) ∷ []))
    × (length ss ≡ 8193 → save [] 9 64 ss ts vs ≡ refused 19 0 0)
unfolding lookup insert save
one_bar ss ts vs c = (λ n. rw (c, n) refl, λ n. rw (c, n) refl)

-- in a full pad every fault comes first: 11, 12, 22, 6 20, 6 21. Fails: 19
full_last : (bars : List Bar) → lookup bars 9 ≡ None → length bars ≡ 256
    → (save bars 9 4 (5 ∷ []) [] [] ≡ refused 11 0 0)
    × (save bars 9 4 (128 ∷ []) (0 ∷ []) (1 ∷ []) ≡ refused 12 0 0)
    × (save bars 9 4 (5 ∷ []) (0 ∷ []) (0 ∷ []) ≡ refused 22 0 0)
    × (save bars 9 4 (5 ∷ 5 ∷ []) (0 ∷ 0 ∷ []) (1 ∷ 2 ∷ []) ≡ refused 6 20 0)
    × (save bars 9 4 (5 ∷ []) (4 ∷ []) (1 ∷ []) ≡ refused 6 21 0)
unfolding mapping
full_last bars l n = (rw l refl, rw l refl, rw l refl, rw l refl, rw l refl)
