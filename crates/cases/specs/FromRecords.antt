-- The entry over records: the writer's answer on the records taken apart, with two lists lent that have a place for each record.
use Rattle.std.specs.Prelude.{Ok, ℕ, ◌≡◌, refl, List, [], ◌∷◌, length}
use Rattle.calls.specs.Given.{lists}
use Rattle.write_records.specs.Promise.{taken_apart}
use Rattle.calls.specs.Writing.{write_records}
use Rattle.cases.specs.Through.{writing, from_records}
use Rattle.cases.specs.Digits.{refused}
use Rattle.cases.specs.Segments.{two_documents, segment_of_two}

-- the ids first, then the lengths. Fails: the two swapped
apart : taken_apart (record { id = record { 0 = 3 }; len = 16 } ∷ record { id = record { 0 = 7 }; len = 8 } ∷ []) [] [] [] [] [] []
    ≡ lists (3 ∷ 7 ∷ []) (16 ∷ 8 ∷ []) [] [] [] [] [] []
apart = refl

-- document 01's two bars: the same bytes. Fails: a refusal of room that is there
two_from_records : write_records two_documents 2 2 165 ≡ Ok segment_of_two
unfolding writing from_records
two_from_records = refl

-- and the writer's own 13. Fails: 13 of the lent lists
no_room_for_two : write_records two_documents 2 2 164 ≡ refused 13 1 165
unfolding writing from_records
no_room_for_two = refl

-- a place short, and a place over: 11, before 13. Fails: only too few places refused, which buffer is short
ids_short : write_records two_documents 1 2 0 ≡ refused 11 0 0
unfolding writing from_records
ids_short = refl

ids_long : write_records two_documents 3 2 0 ≡ refused 11 0 0
unfolding writing from_records
ids_long = refl

lengths_short : write_records two_documents 2 1 0 ≡ refused 11 0 0
unfolding writing from_records
lengths_short = refl

lengths_long : write_records two_documents 2 3 0 ≡ refused 11 0 0
unfolding writing from_records
lengths_long = refl

-- places before what stands in the lists: an id twice. Fails: 15 of kind 6
places_first : write_records (lists (4 ∷ 4 ∷ []) (9 ∷ 9 ∷ []) [] [] [] [] [] []) 2 1 0 ≡ refused 11 0 0
unfolding writing from_records
places_first = refl

-- then the writer's tests. Fails: ids not tested
ids_rise : write_records (lists (4 ∷ 4 ∷ []) (9 ∷ 9 ∷ []) [] [] [] [] [] []) 2 2 0 ≡ refused 6 15 0
unfolding writing from_records
ids_rise = refl

-- 12 before the places, and not of the lent lists, however many places they have. Fails: 11 first, 12 for a long lent list
long_text : (xs : List ℕ) → (length xs ≡ 16777216 → write_records (lists [] [] xs [] [] [] [] []) 1 0 0 ≡ refused 11 0 0)
    × (length xs ≡ 16777217 → write_records (lists [] [] xs [] [] [] [] []) 1 0 0 ≡ refused 12 0 0)
unfolding writing from_records
long_text xs = (λ n. rw n refl, λ n. rw n refl)

long_lent : write_records two_documents 16777217 2 165 ≡ refused 11 0 0
unfolding writing from_records
long_lent = refl
