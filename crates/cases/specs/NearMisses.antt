-- Questions at the edges: two sounds on one step, one hit for a sound named twice, numbers at the end of 32 bits.
use Rattle.std.specs.Prelude.{Ok, ◌≡◌, refl, [], ◌∷◌, ◌++◌}
use Rattle.rules.specs.declared.rule.Rule.TheVariants.{Phrase, Ordered, Unordered}
use Rattle.calls.specs.Questions.{search_text, search_two}
use Rattle.cases.specs.Through.{asking}
use Rattle.cases.specs.Segments.{hat, a, b, segment_of_uneven, segment_of_spread, segment_of_same_step, segment_of_high}

-- ---- a and b on step 2 of bar 0; on 2 and 3 of bar 1

-- two sounds on one step serve an unordered question. Fails: forbidden
one_step_unordered : search_text segment_of_same_step (Unordered 1) (a ++ b) (1 ∷ 2 ∷ []) 9 ≡ Ok (0 ∷ 1 ∷ [])
unfolding asking
one_step_unordered = refl

-- and never an ordered one. Fails: `<=` for `<`
one_step_ordered : search_text segment_of_same_step (Ordered 1) (a ++ b) (1 ∷ 2 ∷ []) 9 ≡ Ok (1 ∷ [])
unfolding asking
one_step_ordered = refl

-- b a: none. Fails: `<=` for `<`, any order
one_step_ordered_back : search_text segment_of_same_step (Ordered 1) (b ++ a) (1 ∷ 2 ∷ []) 9 ≡ Ok []
unfolding asking
one_step_ordered_back = refl

-- nor a phrase. Fails: the same step for both
one_step_phrase : search_text segment_of_same_step Phrase (a ++ b) (1 ∷ 2 ∷ []) 9 ≡ Ok (1 ∷ [])
unfolding asking
one_step_phrase = refl

-- a window of 0 decodes nothing and gives none. Fails: a window of one step, which has 0
one_step_0 : search_text segment_of_same_step (Unordered 0) (a ++ b) (1 ∷ 2 ∷ []) 9 ≡ Ok []
unfolding asking
one_step_0 = refl

-- a a: each bar has one hit: none. Fails: one hit for both
one_hit_unordered : search_text segment_of_same_step (Unordered 3) (a ++ a) (1 ∷ 2 ∷ []) 9 ≡ Ok []
unfolding asking
one_hit_unordered = refl

-- ordered. Fails: `<=` for `<`
one_hit_ordered : search_text segment_of_same_step (Ordered 3) (a ++ a) (1 ∷ 2 ∷ []) 9 ≡ Ok []
unfolding asking
one_hit_ordered = refl

-- as a phrase. Fails: the same step for both
one_hit_phrase : search_text segment_of_same_step Phrase (a ++ a) (1 ∷ 2 ∷ []) 9 ≡ Ok []
unfolding asking
one_hit_phrase = refl

-- a b a: none, though a and b are there. Fails: two names compared and the rest passed
one_hit_three : search_text segment_of_same_step (Unordered 3) (a ++ b ++ a) (1 ∷ 2 ∷ 3 ∷ []) 9 ≡ Ok []
unfolding asking
one_hit_three = refl

-- near_match: a a. Fails: one hit for both
one_hit_near_match : search_two segment_of_same_step 3 a a 9 ≡ Ok []
unfolding asking
one_hit_near_match = refl

-- ---- a and b never in one bar

-- both sounds, no bar has both: none. Fails: positions of different bars compared
apart : search_text segment_of_spread (Unordered 4294967295) (a ++ b) (1 ∷ 2 ∷ []) 9 ≡ Ok []
unfolding asking
apart = refl

-- a a, within bar 70000: 0 and 5. Fails: the gap as the id
spread_ordered : search_text segment_of_spread (Ordered 5) (a ++ a) (1 ∷ 2 ∷ []) 9 ≡ Ok (70000 ∷ [])
unfolding asking
spread_ordered = refl

-- window 4: none. Fails: a window that may be exceeded by one
spread_ordered_4 : search_text segment_of_spread (Ordered 4) (a ++ a) (1 ∷ 2 ∷ []) 9 ≡ Ok []
unfolding asking
spread_ordered_4 = refl

-- hat alone, in the bar that has it. Fails: bars without postings listed, the place for the id
uneven_phrase : search_text segment_of_uneven Phrase hat (3 ∷ []) 9 ≡ Ok (9 ∷ [])
unfolding asking
uneven_phrase = refl

-- ---- steps 4294967290 and 4294967294: sums never wrap

-- window 4. Fails: start + window in 32 bits
high_4 : search_text segment_of_high (Unordered 4) (a ++ b) (1 ∷ 2 ∷ []) 9 ≡ Ok (4294967295 ∷ [])
unfolding asking
high_4 = refl

-- window 3: none. Fails: a window that may be exceeded by one
high_3 : search_text segment_of_high (Unordered 3) (a ++ b) (1 ∷ 2 ∷ []) 9 ≡ Ok []
unfolding asking
high_3 = refl

-- the largest window. Fails: start + window in 32 bits
high_window : search_text segment_of_high (Unordered 4294967295) (b ++ a) (1 ∷ 2 ∷ []) 9 ≡ Ok (4294967295 ∷ [])
unfolding asking
high_window = refl

-- ordered, the largest window. Fails: first + window in 32 bits
high_ordered : search_text segment_of_high (Ordered 4294967295) (a ++ b) (1 ∷ 2 ∷ []) 9 ≡ Ok (4294967295 ∷ [])
unfolding asking
high_ordered = refl

-- b a: none. Fails: a difference that wraps
high_ordered_back : search_text segment_of_high (Ordered 4294967295) (b ++ a) (1 ∷ 2 ∷ []) 9 ≡ Ok []
unfolding asking
high_ordered_back = refl
