-- Questions put to the bytes that the writer writes for document 01's two bars (Written.antt): kick in 3 on 0, 4, 15 and in 7 on 2, snare
-- in 3 on 8, 14 and in 7 on 3, 4. With places for both ids.
use Rattle.cases.specs.Digits.{refusal_of}
use Rattle.std.specs.Prelude.{Err, Ok, ℕ, ◌≡◌, refl, true, false, List, [], ◌∷◌, ◌++◌}
use Rattle.segment.specs.Results.{Answer}
use Rattle.rules.specs.declared.rule.Rule.TheVariants as rule
use Rattle.rules.specs.Kinds.{near_rule}
use Rattle.rules.specs.declared.rule.Rule.{Rule}
use Rattle.rules.specs.declared.rule.Rule.TheVariants.{Phrase, Ordered, Unordered}
use Rattle.calls.specs.Questions.{search_text, search_two}
use Rattle.ask_search.specs.Promise.{TextAnswered, TwoAnswered}
use Rattle.cases.specs.Through.{asking}
use Rattle.cases.specs.Segments.{kick, snare, segment_of_two}

abbrev tom : List ℕ
tom = 0x74 ∷ 0x6F ∷ 0x6D ∷ []

-- names in one text, by their ends
abbrev asked : Rule → (text ends : List ℕ) → Answer (List ℕ)
asked rule text ends = search_text segment_of_two rule text ends 2

-- ---- phrase: some start has sound i on start + i

-- M: kick snare: 7. Fails: names that only follow one another, which has 3 too
phrase_two : asked Phrase (kick ++ snare) (4 ∷ 9 ∷ []) ≡ Ok (7 ∷ [])
unfolding asking
phrase_two = refl

-- M: kick snare snare: 7. Fails: the same step for both snares, only the first start of a name
phrase_three : asked Phrase (kick ++ snare ++ snare) (4 ∷ 9 ∷ 14 ∷ []) ≡ Ok (7 ∷ [])
unfolding asking
phrase_three = refl

-- kick snare kick: none. Fails: two names compared and the rest passed
phrase_third_fails : asked Phrase (kick ++ snare ++ kick) (4 ∷ 9 ∷ 13 ∷ []) ≡ Ok []
unfolding asking
phrase_third_fails = refl

-- snare kick: 14, 15 in 3. Fails: only the first start tried
phrase_later_start : asked Phrase (snare ++ kick) (5 ∷ 9 ∷ []) ≡ Ok (3 ∷ [])
unfolding asking
phrase_later_start = refl

-- snare snare: 3, 4 in 7. Fails: one hit for a sound named twice, which has 3 too
phrase_twice : asked Phrase (snare ++ snare) (5 ∷ 10 ∷ []) ≡ Ok (7 ∷ [])
unfolding asking
phrase_twice = refl

-- snare alone: 3, 7. Fails: under two sounds none
phrase_one : asked Phrase snare (5 ∷ []) ≡ Ok (3 ∷ 7 ∷ [])
unfolding asking
phrase_one = refl

-- kick with an unknown tom: none. Fails: an absent sound left out
phrase_unknown : asked Phrase (kick ++ tom) (4 ∷ 7 ∷ []) ≡ Ok []
unfolding asking
phrase_unknown = refl

-- a phrase of no sounds gives none. Fails: every bar
phrase_none : asked Phrase [] [] ≡ Ok []
unfolding asking
phrase_none = refl

-- ---- ordered near: strictly rising steps, one for each sound in turn, last minus first at most the window

-- M: kick snare, window 3: 7. Fails: a window that may be exceeded by one
ordered_3 : asked (Ordered 3) (kick ++ snare) (4 ∷ 9 ∷ []) ≡ Ok (7 ∷ [])
unfolding asking
ordered_3 = refl

-- M: window 4: 3, 7: 4 and 8 in 3. Fails: a window of w as w steps, only the first kick tried
ordered_4 : asked (Ordered 4) (kick ++ snare) (4 ∷ 9 ∷ []) ≡ Ok (3 ∷ 7 ∷ [])
unfolding asking
ordered_4 = refl

-- M: snare kick, window 1: 3. Fails: any order, which has 7 too
ordered_back : asked (Ordered 1) (snare ++ kick) (5 ∷ 9 ∷ []) ≡ Ok (3 ∷ [])
unfolding asking
ordered_back = refl

-- snare snare, window 5: 7. Fails: one hit for a sound named twice
ordered_twice_5 : asked (Ordered 5) (snare ++ snare) (5 ∷ 10 ∷ []) ≡ Ok (7 ∷ [])
unfolding asking
ordered_twice_5 = refl

-- window 6: 3, 7. Fails: a window of w as w steps
ordered_twice_6 : asked (Ordered 6) (snare ++ snare) (5 ∷ 10 ∷ []) ≡ Ok (3 ∷ 7 ∷ [])
unfolding asking
ordered_twice_6 = refl

-- kick kick kick, window 11: 0, 4, 15 are 4 and 11 apart: none. Fails: the window between neighbours
ordered_three_11 : asked (Ordered 11) (kick ++ kick ++ kick) (4 ∷ 8 ∷ 12 ∷ []) ≡ Ok []
unfolding asking
ordered_three_11 = refl

-- window 14: none. Fails: a window that may be exceeded by one
ordered_three_14 : asked (Ordered 14) (kick ++ kick ++ kick) (4 ∷ 8 ∷ 12 ∷ []) ≡ Ok []
unfolding asking
ordered_three_14 = refl

-- window 15: 3. Fails: a window of w as w steps, which has none
ordered_three_15 : asked (Ordered 15) (kick ++ kick ++ kick) (4 ∷ 8 ∷ 12 ∷ []) ≡ Ok (3 ∷ [])
unfolding asking
ordered_three_15 = refl

-- under two sounds: none. Fails: every bar that has it
ordered_one : asked (Ordered 5) kick (4 ∷ []) ≡ Ok []
unfolding asking
ordered_one = refl

-- a window of 0: none. Fails: a window of 0 as one of 1, which has 7
ordered_0 : asked (Ordered 0) (kick ++ snare) (4 ∷ 9 ∷ []) ≡ Ok []
unfolding asking
ordered_0 = refl

-- an absent sound: none. Fails: an absent sound left out
ordered_unknown : asked (Ordered 15) (kick ++ tom) (4 ∷ 7 ∷ []) ≡ Ok []
unfolding asking
ordered_unknown = refl

-- ---- unordered near: some window + 1 consecutive steps hold each different sound at least as often as it is named

-- M: kick snare, window 1: 3, 7. Fails: in the order named, which has 7 alone
unordered_1 : asked (Unordered 1) (kick ++ snare) (4 ∷ 9 ∷ []) ≡ Ok (3 ∷ 7 ∷ [])
unfolding asking
unordered_1 = refl

-- M: snare snare, window 5: 7. Fails: one hit for a sound named twice
unordered_twice_5 : asked (Unordered 5) (snare ++ snare) (5 ∷ 10 ∷ []) ≡ Ok (7 ∷ [])
unfolding asking
unordered_twice_5 = refl

-- M: window 6: 3, 7: 8 and 14 in 3. Fails: a window of w as w steps
unordered_twice_6 : asked (Unordered 6) (snare ++ snare) (5 ∷ 10 ∷ []) ≡ Ok (3 ∷ 7 ∷ [])
unfolding asking
unordered_twice_6 = refl

-- snare kick snare, window 6: 2, 3, 4 in 7; 8, 14, 15 in 3 are 7 apart. Fails: mentions counted side by side only
unordered_mixed_6 : asked (Unordered 6) (snare ++ kick ++ snare) (5 ∷ 9 ∷ 14 ∷ []) ≡ Ok (7 ∷ [])
unfolding asking
unordered_mixed_6 = refl

-- window 7: both. Fails: a window of w as w steps
unordered_mixed_7 : asked (Unordered 7) (snare ++ kick ++ snare) (5 ∷ 9 ∷ 14 ∷ []) ≡ Ok (3 ∷ 7 ∷ [])
unfolding asking
unordered_mixed_7 = refl

-- kick kick snare, window 8: 0, 4, 8 in 3; one kick in 7. Fails: one hit for a sound named twice
unordered_three_8 : asked (Unordered 8) (kick ++ kick ++ snare) (4 ∷ 8 ∷ 13 ∷ []) ≡ Ok (3 ∷ [])
unfolding asking
unordered_three_8 = refl

-- window 7: none. Fails: the window between neighbours
unordered_three_7 : asked (Unordered 7) (kick ++ kick ++ snare) (4 ∷ 8 ∷ 13 ∷ []) ≡ Ok []
unfolding asking
unordered_three_7 = refl

-- under two sounds: none. Fails: every bar that has it
unordered_one : asked (Unordered 5) kick (4 ∷ []) ≡ Ok []
unfolding asking
unordered_one = refl

-- a window of 0: none. Fails: a window of 0 as one of 1, which has both
unordered_0 : asked (Unordered 0) (kick ++ snare) (4 ∷ 9 ∷ []) ≡ Ok []
unfolding asking
unordered_0 = refl

-- ---- near_match: two names, in any order

-- M again: kick snare, window 1. Fails: ordered
near_match : search_two segment_of_two 1 kick snare 2 ≡ Ok (3 ∷ 7 ∷ [])
unfolding asking
near_match = refl

-- snare snare, window 5. Fails: one hit for both
near_match_same : search_two segment_of_two 5 snare snare 2 ≡ Ok (7 ∷ [])
unfolding asking
near_match_same = refl

-- a window of 0: none. Fails: a window of 0 as one of 1
near_match_0 : search_two segment_of_two 0 kick snare 2 ≡ Ok []
unfolding asking
near_match_0 = refl

-- ---- replies and the lent buffer; 13

-- the count, the ids, and the places past them unchanged. Fails: a count with the buffer untouched, ids at its end
phrase_answered : TextAnswered segment_of_two rule.Phrase (kick ++ snare) (4 ∷ 9 ∷ []) (90 ∷ 91 ∷ []) (Ok 1) (7 ∷ 91 ∷ [])
unfolding asking
phrase_answered = record { reply = refl; left = refl }

-- near_match_terms_strs by its flag: ordered. Fails: the flag swapped
ordered_answered : TextAnswered segment_of_two (near_rule true 1) (snare ++ kick) (5 ∷ 9 ∷ []) (90 ∷ 91 ∷ []) (Ok 1)
    (3 ∷ 91 ∷ [])
unfolding asking
ordered_answered = record { reply = refl; left = refl }

-- and in any order. Fails: the flag swapped, which has 3 alone
unordered_answered : TextAnswered segment_of_two (near_rule false 1) (snare ++ kick) (5 ∷ 9 ∷ []) (90 ∷ 91 ∷ []) (Ok 2)
    (3 ∷ 7 ∷ [])
unfolding asking
unordered_answered = record { reply = refl; left = refl }

-- 13: index the whole answer's length. Fails: ids as far as they go, index the room
one_place_short : TextAnswered segment_of_two (near_rule true 4) (kick ++ snare) (4 ∷ 9 ∷ []) (90 ∷ [])
    (Err (refusal_of 13 1 2)) (90 ∷ [])
unfolding asking
one_place_short = record { reply = refl; left = refl }

-- near_match. Fails: a count of one, places past the answer cleared
two_answered : TwoAnswered segment_of_two 1 kick snare (90 ∷ 91 ∷ 92 ∷ []) (Ok 2) (3 ∷ 7 ∷ 92 ∷ [])
unfolding asking
two_answered = record { reply = refl; left = refl }

-- near_match with one place. Fails: ids as far as they go
two_short : TwoAnswered segment_of_two 1 kick snare (90 ∷ []) (Err (refusal_of 13 1 2)) (90 ∷ [])
unfolding asking
two_short = record { reply = refl; left = refl }
