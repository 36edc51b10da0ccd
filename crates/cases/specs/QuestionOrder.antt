-- A question's refusals: it "checks 12, 11, 10, opens the segment, decodes every different sound in the order named, then tests 13".
-- Where a case has two faults, the first of them stands. (12 is in TooLarge.antt.)
use Rattle.std.specs.Prelude.{Ok, ◌≡◌, refl, [], ◌∷◌, ◌++◌}
use Rattle.rules.specs.declared.rule.Rule.TheVariants.{Phrase, Ordered, Unordered}
use Rattle.calls.specs.Questions.{search_text, search_two}
use Rattle.cases.specs.Through.{asking}
use Rattle.cases.specs.Digits.{refused}
use Rattle.cases.specs.Segments.{a, b, segment_of_same_step}
use Rattle.cases.specs.Faulty.{two_faults, late_fault, wrong_checksum}

-- ---- 11, put to no segment at all

-- a text's ends fall, though the last is its length. Fails: only the last end tested
ends_fall : search_text [] Phrase (0x61 ∷ 0x62 ∷ []) (2 ∷ 1 ∷ 2 ∷ []) 9 ≡ refused 11 0 0
unfolding asking
ends_fall = refl

-- the last end is below the text's length. Fails: bytes after the last name dropped
ends_short : search_text [] Phrase (0x61 ∷ 0x62 ∷ []) (1 ∷ []) 9 ≡ refused 11 0 0
unfolding asking
ends_short = refl

-- and above it. Fails: a name cut at the text's end
ends_long : search_text [] Phrase (0x61 ∷ 0x62 ∷ []) (1 ∷ 3 ∷ []) 9 ≡ refused 11 0 0
unfolding asking
ends_long = refl

-- a text without ends is not empty: 11 though the question is idle. Fails: an idle question not tested
text_without_ends : search_text [] Phrase (0x61 ∷ []) [] 9 ≡ refused 11 0 0
unfolding asking
text_without_ends = refl

-- 11 before 10: FF, and an end too far. Fails: 10
shape_before_names : search_text [] (Ordered 1) (0xFF ∷ []) (2 ∷ []) 9 ≡ refused 11 0 0
unfolding asking
shape_before_names = refl

-- ---- 10, before the segment is opened, of every name

-- the last name too. Fails: opening first, the first name alone tested
name_last : search_text [] (Unordered 1) (0x61 ∷ 0x62 ∷ 0xFF ∷ []) (1 ∷ 2 ∷ 3 ∷ []) 9 ≡ refused 10 0 0
unfolding asking
name_last = refl

-- name by name: C3 A9 cut in two. Fails: the whole text tested
names_cut : search_text [] Phrase (0xC3 ∷ 0xA9 ∷ []) (1 ∷ 2 ∷ []) 9 ≡ refused 10 0 0
unfolding asking
names_cut = refl

-- an idle question's name: a window of 0. Fails: none before the tests
idle_name : search_text [] (Ordered 0) (0x61 ∷ 0xFF ∷ []) (1 ∷ 2 ∷ []) 9 ≡ refused 10 0 0
unfolding asking
idle_name = refl

-- under two sounds. Fails: an idle question not tested
idle_one_name : search_text [] (Unordered 1) (0xFF ∷ []) (1 ∷ []) 9 ≡ refused 10 0 0
unfolding asking
idle_one_name = refl

-- near_match: the first name. Fails: opening first
near_match_first : search_two [] 1 (0xFF ∷ []) a 9 ≡ refused 10 0 0
unfolding asking
near_match_first = refl

-- and the second. Fails: the first name alone tested, idle before the tests
near_match_second : search_two [] 0 a (0xFF ∷ []) 9 ≡ refused 10 0 0
unfolding asking
near_match_second = refl

-- an empty questioned name passes, and is absent. Fails: 6 6 0, an absent sound left out
empty_name : search_text segment_of_same_step Phrase (0x61 ∷ []) (0 ∷ 1 ∷ []) 9 ≡ Ok []
unfolding asking
empty_name = refl

-- ---- the segment, before any list

-- names in order: the segment. Fails: none for bytes that are no segment
opened : search_text [] Phrase (0x61 ∷ []) (1 ∷ []) 9 ≡ refused 1 1 0
unfolding asking
opened = refl

-- a phrase of no sounds still opens it. Fails: none before opening
idle_phrase_opened : search_text [] Phrase [] [] 9 ≡ refused 1 1 0
unfolding asking
idle_phrase_opened = refl

-- a window of 0. Fails: none before opening
idle_window_opened : search_text [] (Ordered 0) (0x61 ∷ 0x62 ∷ []) (1 ∷ 2 ∷ []) 9 ≡ refused 1 1 0
unfolding asking
idle_window_opened = refl

-- a near question of one sound. Fails: none before opening
idle_one_opened : search_text [] (Unordered 1) (0x61 ∷ []) (1 ∷ []) 9 ≡ refused 1 1 0
unfolding asking
idle_one_opened = refl

-- near_match. Fails: none before opening
near_match_opened : search_two [] 0 a b 9 ≡ refused 1 1 0
unfolding asking
near_match_opened = refl

-- a byte that trails before a's list. Fails: 7
open_before_decode : search_text (two_faults ++ 0x00 ∷ []) Phrase (0x61 ∷ []) (1 ∷ []) 9 ≡ refused 6 1 0
unfolding asking
open_before_decode = refl

-- ---- decoding in the order named: a's list is 80, b's is 00 00

-- a, b: a's. Fails: the order of the directory backwards
a_then_b : search_text two_faults (Unordered 1) (0x61 ∷ 0x62 ∷ []) (1 ∷ 2 ∷ []) 9 ≡ refused 7 5 0
unfolding asking
a_then_b = refl

-- b, a: b's. Fails: the order of the directory
b_then_a : search_text two_faults (Unordered 1) (0x62 ∷ 0x61 ∷ []) (1 ∷ 2 ∷ []) 9 ≡ refused 6 11 0
unfolding asking
b_then_a = refl

-- as a phrase. Fails: the order of the directory
b_a_phrase : search_text two_faults Phrase (0x62 ∷ 0x61 ∷ []) (1 ∷ 2 ∷ []) 9 ≡ refused 6 11 0
unfolding asking
b_a_phrase = refl

-- ordered. Fails: the order of the directory
b_a_ordered : search_text two_faults (Ordered 1) (0x62 ∷ 0x61 ∷ []) (1 ∷ 2 ∷ []) 9 ≡ refused 6 11 0
unfolding asking
b_a_ordered = refl

-- near_match. Fails: the order of the directory
near_match_b_a : search_two two_faults 1 b a 9 ≡ refused 6 11 0
unfolding asking
near_match_b_a = refl

-- b, b, a: by first mention. Fails: by last mention
first_mention : search_text two_faults Phrase (0x62 ∷ 0x62 ∷ 0x61 ∷ []) (1 ∷ 2 ∷ 3 ∷ []) 9 ≡ refused 6 11 0
unfolding asking
first_mention = refl

-- an absent sound does not stop the others: c, a. Fails: none
absent_first : search_text two_faults Phrase (0x63 ∷ 0x61 ∷ []) (1 ∷ 2 ∷ []) 9 ≡ refused 7 5 0
unfolding asking
absent_first = refl

-- nor after them: b, c. Fails: absent sounds looked for before decoding
absent_last : search_text two_faults (Ordered 1) (0x62 ∷ 0x63 ∷ []) (1 ∷ 2 ∷ []) 9 ≡ refused 6 11 0
unfolding asking
absent_last = refl

-- b, c, a. Fails: none
absent_between : search_text two_faults (Unordered 1) (0x62 ∷ 0x63 ∷ 0x61 ∷ []) (1 ∷ 2 ∷ 3 ∷ []) 9 ≡ refused 6 11 0
unfolding asking
absent_between = refl

-- a phrase of one sound decodes. Fails: none, as for a near question of one
one_sound_decodes : search_text two_faults Phrase (0x62 ∷ []) (1 ∷ []) 9 ≡ refused 6 11 0
unfolding asking
one_sound_decodes = refl

-- the whole list: its second posting. Fails: decoding that stops at an answer
whole_list : search_text late_fault Phrase (0x61 ∷ []) (1 ∷ []) 9 ≡ refused 6 9 0
unfolding asking
whole_list = refl

-- the list's checksum. Fails: lists not tested when searched
list_checksum : search_text wrong_checksum Phrase (0x61 ∷ []) (1 ∷ []) 9 ≡ refused 5 6 0
unfolding asking
list_checksum = refl

-- ---- idle questions decode nothing, and need no room

-- a phrase of no sounds. Fails: 13, every bar
idle_phrase : search_text two_faults Phrase [] [] 0 ≡ Ok []
unfolding asking
idle_phrase = refl

-- a near question of one sound. Fails: 7
idle_ordered : search_text two_faults (Ordered 1) (0x61 ∷ []) (1 ∷ []) 0 ≡ Ok []
unfolding asking
idle_ordered = refl

-- in any order. Fails: 7
idle_unordered : search_text two_faults (Unordered 1) (0x61 ∷ []) (1 ∷ []) 0 ≡ Ok []
unfolding asking
idle_unordered = refl

-- of no sounds. Fails: every bar
idle_none : search_text two_faults (Unordered 1) [] [] 0 ≡ Ok []
unfolding asking
idle_none = refl

-- a window of 0. Fails: 7
idle_window : search_text two_faults (Ordered 0) (0x61 ∷ 0x62 ∷ []) (1 ∷ 2 ∷ []) 0 ≡ Ok []
unfolding asking
idle_window = refl

-- in any order. Fails: 7
idle_window_unordered : search_text two_faults (Unordered 0) (0x61 ∷ 0x62 ∷ []) (1 ∷ 2 ∷ []) 0 ≡ Ok []
unfolding asking
idle_window_unordered = refl

-- near_match with a window of 0. Fails: 7
idle_near_match : search_two two_faults 0 a b 0 ≡ Ok []
unfolding asking
idle_near_match = refl

-- only absent sounds: none. Fails: 10 of kind 6
only_absent : search_text two_faults Phrase (0x63 ∷ 0x64 ∷ []) (1 ∷ 2 ∷ []) 0 ≡ Ok []
unfolding asking
only_absent = refl

-- ---- 13 last

-- a list before 13. Fails: 13
list_before_room : search_text two_faults (Unordered 1) (0x61 ∷ 0x62 ∷ []) (1 ∷ 2 ∷ []) 0 ≡ refused 7 5 0
unfolding asking
list_before_room = refl

-- two bars and no place: the whole answer's length. Fails: 13 1 1
no_room : search_text segment_of_same_step (Unordered 1) (0x61 ∷ 0x62 ∷ []) (1 ∷ 2 ∷ []) 0 ≡ refused 13 1 2
unfolding asking
no_room = refl

-- no bar and no place. Fails: 13 1 0
room_for_none : search_text segment_of_same_step (Ordered 1) (0x62 ∷ 0x61 ∷ []) (1 ∷ 2 ∷ []) 0 ≡ Ok []
unfolding asking
room_for_none = refl
