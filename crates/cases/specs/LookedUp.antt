-- A length looked up in a caller's own lists (document 02, wish 8): 12, 11, 21 over the whole list, then the length or that there is none.
use Rattle.std.specs.Prelude.{None, Ok, Some, ℕ, ◌≡◌, refl, List, [], ◌∷◌, length}
use Rattle.calls.specs.Replies.{length_answer}
use Rattle.length_lookup.specs.Lookup.{looked_up}
use Rattle.c_reply.specs.Replies.{length_reply}
use Rattle.cases.specs.Through.{looking_up}
use Rattle.cases.specs.Digits.{refused}

-- ---- ids 3 and 7, lengths 16 and 12

-- Fails: absent for the last id, the length beside another id
last : looked_up (3 ∷ 7 ∷ []) (16 ∷ 12 ∷ []) 7 ≡ Ok (Some 12)
unfolding looking_up
last = refl

-- Fails: absent for the first id
first : looked_up (3 ∷ 7 ∷ []) (16 ∷ 12 ∷ []) 3 ≡ Ok (Some 16)
unfolding looking_up
first = refl

-- one in the middle. Fails: the last length for every id but the first
middle : looked_up (3 ∷ 7 ∷ 9 ∷ []) (16 ∷ 12 ∷ 8 ∷ []) 7 ≡ Ok (Some 12)
unfolding looking_up
middle = refl

-- between, below and above. Fails: the length of the next id
between : looked_up (3 ∷ 7 ∷ []) (16 ∷ 12 ∷ []) 5 ≡ Ok None
unfolding looking_up
between = refl

outside : (looked_up (3 ∷ 7 ∷ []) (16 ∷ 12 ∷ []) 2 ≡ Ok None) × (looked_up (3 ∷ 7 ∷ []) (16 ∷ 12 ∷ []) 8 ≡ Ok None)
unfolding looking_up
outside = (refl, refl)

-- as replies of the C interface: 1 and the length, 0 and 0
as_replies : (length_reply (length_answer (looked_up (3 ∷ 7 ∷ []) (16 ∷ 12 ∷ []) 7))
    ≡ record { kind = 0; which = 0; index = 0; first = 1; second = 12; third = 0; fourth = 0 })
    × (length_reply (length_answer (looked_up (3 ∷ 7 ∷ []) (16 ∷ 12 ∷ []) 5))
    ≡ record { kind = 0; which = 0; index = 0; first = 0; second = 0; third = 0; fourth = 0 })
unfolding looking_up
as_replies = (refl, refl)

-- a length of 0 is a length. Fails: absent
length_0 : length_reply (length_answer (looked_up (9 ∷ []) (0 ∷ []) 9))
    ≡ record { kind = 0; which = 0; index = 0; first = 1; second = 0; third = 0; fourth = 0 }
unfolding looking_up
length_0 = refl

-- lists without elements lack every id. Fails: a refusal
nothing : (id : ℕ) → looked_up [] [] id ≡ Ok None
unfolding looking_up
nothing id = refl

-- the lowest and the highest id. Fails: numbers with a sign, a first id that must be above 0
ends_of_ids : (looked_up (0 ∷ 2147483648 ∷ 4294967295 ∷ []) (1 ∷ 2 ∷ 4294967295 ∷ []) 0 ≡ Ok (Some 1))
    × (looked_up (0 ∷ 2147483648 ∷ 4294967295 ∷ []) (1 ∷ 2 ∷ 4294967295 ∷ []) 4294967295 ≡ Ok (Some 4294967295))
unfolding looking_up
ends_of_ids = (refl, refl)

-- ---- 21

-- ids 3, 7, 7, 9: equal ids, and the asked one stands in front of them. Fails: equal ids taken, the neighbours of the asked id alone tested
equal : looked_up (3 ∷ 7 ∷ 7 ∷ 9 ∷ []) (1 ∷ 2 ∷ 3 ∷ 4 ∷ []) 3 ≡ refused 21 0 2
unfolding looking_up
equal = refl

-- as a reply
equal_reply : length_reply (length_answer (looked_up (3 ∷ 7 ∷ 7 ∷ 9 ∷ []) (1 ∷ 2 ∷ 3 ∷ 4 ∷ []) 3))
    ≡ record { kind = 21; which = 0; index = 2; first = 0; second = 0; third = 0; fourth = 0 }
unfolding looking_up
equal_reply = refl

-- whatever id is asked, one that the list lacks too. Fails: absent before 21
whatever_id : (id : ℕ) → looked_up (3 ∷ 7 ∷ 7 ∷ 9 ∷ []) (1 ∷ 2 ∷ 3 ∷ 4 ∷ []) id ≡ refused 21 0 2
unfolding looking_up
whatever_id id = refl

-- the first of two such places. Fails: the last one
first_of_two : looked_up (5 ∷ 4 ∷ 3 ∷ []) (1 ∷ 1 ∷ 1 ∷ []) 5 ≡ refused 21 0 1
unfolding looking_up
first_of_two = refl

-- the last id of all. Fails: a last one that is not compared
at_the_end : looked_up (1 ∷ 2 ∷ 3 ∷ 0 ∷ []) (1 ∷ 1 ∷ 1 ∷ 1 ∷ []) 1 ≡ refused 21 0 3
unfolding looking_up
at_the_end = refl

-- ---- 11 before 21, 12 before 11

-- Fails: 21 first, the shorter list's length taken
a_length_missing : looked_up (7 ∷ 7 ∷ []) (1 ∷ []) 7 ≡ refused 11 0 0
unfolding looking_up
a_length_missing = refl

an_id_missing : looked_up (7 ∷ []) (1 ∷ 2 ∷ []) 7 ≡ refused 11 0 0
unfolding looking_up
an_id_missing = refl

-- so long a list does not compute; these are of whatever list has so many elements. Fails: a limit of one less, a list not tested, 11 first
long_ids : (xs : List ℕ)
    → (length xs ≡ 16777216 → looked_up xs [] 7 ≡ refused 11 0 0) × (length xs ≡ 16777217 → looked_up xs [] 7 ≡ refused 12 0 0)
unfolding looking_up
long_ids xs = (λ n. rw n refl, λ n. rw n refl)

long_lengths : (xs : List ℕ)
    → (length xs ≡ 16777216 → looked_up (7 ∷ 7 ∷ []) xs 7 ≡ refused 11 0 0)
    × (length xs ≡ 16777217 → looked_up (7 ∷ 7 ∷ []) xs 7 ≡ refused 12 0 0)
unfolding looking_up
long_lengths xs = (λ n. rw n refl, λ n. rw n refl)
