-- Kind 12, "a list or text handed in with over 16,777,216 elements, or a question over 128 sounds", comes first. So long a list does not
-- compute; a case here is of whatever list has so many elements: 16,777,216 pass on to the next refusal, one more is 12.
use Rattle.std.specs.Prelude.{Ok, ℕ, ◌≡◌, refl, List, [], ◌∷◌, length, replicate}
use Rattle.calls.specs.Reads.{df, docs_with_term, term_postings, positions}
use Rattle.rules.specs.declared.rule.Rule.TheVariants.{Phrase}
use Rattle.calls.specs.Questions.{search_text, search_two}
use Rattle.cases.specs.Through.{writing, calling, asking}
use Rattle.cases.specs.Digits.{refused}
use Rattle.cases.specs.Segments.{a, segment_of_uneven}
use Rattle.cases.specs.NotWritten.{put}

-- ---- the writer: each of its eight lists, with a length missing, which is 11. Fails: a list not tested, 11 before 12, a limit of one less

long_ids : (xs : List ℕ)
    → (length xs ≡ 16777216 → put xs [] [] [] [] [] [] [] ≡ refused 11 0 0)
    × (length xs ≡ 16777217 → put xs [] [] [] [] [] [] [] ≡ refused 12 0 0)
unfolding writing
long_ids xs = (λ n. rw n refl, λ n. rw n refl)

long_lengths : (xs : List ℕ)
    → (length xs ≡ 16777216 → put (4 ∷ []) xs [] [] [] [] [] [] ≡ refused 11 0 0)
    × (length xs ≡ 16777217 → put (4 ∷ []) xs [] [] [] [] [] [] ≡ refused 12 0 0)
unfolding writing
long_lengths xs = (λ n. rw n refl, λ n. rw n refl)

long_text : (xs : List ℕ)
    → (length xs ≡ 16777216 → put (4 ∷ []) [] xs [] [] [] [] [] ≡ refused 11 0 0)
    × (length xs ≡ 16777217 → put (4 ∷ []) [] xs [] [] [] [] [] ≡ refused 12 0 0)
unfolding writing
long_text xs = (λ n. rw n refl, λ n. rw n refl)

long_ends : (xs : List ℕ)
    → (length xs ≡ 16777216 → put (4 ∷ []) [] [] xs [] [] [] [] ≡ refused 11 0 0)
    × (length xs ≡ 16777217 → put (4 ∷ []) [] [] xs [] [] [] [] ≡ refused 12 0 0)
unfolding writing
long_ends xs = (λ n. rw n refl, λ n. rw n refl)

long_posting_counts : (xs : List ℕ)
    → (length xs ≡ 16777216 → put (4 ∷ []) [] [] [] xs [] [] [] ≡ refused 11 0 0)
    × (length xs ≡ 16777217 → put (4 ∷ []) [] [] [] xs [] [] [] ≡ refused 12 0 0)
unfolding writing
long_posting_counts xs = (λ n. rw n refl, λ n. rw n refl)

long_posting_ids : (xs : List ℕ)
    → (length xs ≡ 16777216 → put (4 ∷ []) [] [] [] [] xs [] [] ≡ refused 11 0 0)
    × (length xs ≡ 16777217 → put (4 ∷ []) [] [] [] [] xs [] [] ≡ refused 12 0 0)
unfolding writing
long_posting_ids xs = (λ n. rw n refl, λ n. rw n refl)

long_position_counts : (xs : List ℕ)
    → (length xs ≡ 16777216 → put (4 ∷ []) [] [] [] [] [] xs [] ≡ refused 11 0 0)
    × (length xs ≡ 16777217 → put (4 ∷ []) [] [] [] [] [] xs [] ≡ refused 12 0 0)
unfolding writing
long_position_counts xs = (λ n. rw n refl, λ n. rw n refl)

long_positions : (xs : List ℕ)
    → (length xs ≡ 16777216 → put (4 ∷ []) [] [] [] [] [] [] xs ≡ refused 11 0 0)
    × (length xs ≡ 16777217 → put (4 ∷ []) [] [] [] [] [] [] xs ≡ refused 12 0 0)
unfolding writing
long_positions xs = (λ n. rw n refl, λ n. rw n refl)

-- ---- a questioned name that is not UTF-8, put to no segment at all: 12, then 10, then the segment. Fails: 10 before 12, opening first

of_df : (ys : List ℕ)
    → (length ys ≡ 16777215 → df [] (0xFF ∷ ys) ≡ refused 10 0 0) × (length ys ≡ 16777216 → df [] (0xFF ∷ ys) ≡ refused 12 0 0)
unfolding calling
of_df ys = (λ n. rw n refl, λ n. rw n refl)

of_docs : (ys : List ℕ)
    → (length ys ≡ 16777215 → docs_with_term [] (0xFF ∷ ys) 0 ≡ refused 10 0 0)
    × (length ys ≡ 16777216 → docs_with_term [] (0xFF ∷ ys) 0 ≡ refused 12 0 0)
unfolding calling
of_docs ys = (λ n. rw n refl, λ n. rw n refl)

of_postings : (ys : List ℕ)
    → (length ys ≡ 16777215 → term_postings [] (0xFF ∷ ys) 0 0 0 ≡ refused 10 0 0)
    × (length ys ≡ 16777216 → term_postings [] (0xFF ∷ ys) 0 0 0 ≡ refused 12 0 0)
unfolding calling
of_postings ys = (λ n. rw n refl, λ n. rw n refl)

of_positions : (ys : List ℕ)
    → (length ys ≡ 16777215 → positions [] (0xFF ∷ ys) 0 0 ≡ refused 10 0 0)
    × (length ys ≡ 16777216 → positions [] (0xFF ∷ ys) 0 0 ≡ refused 12 0 0)
unfolding calling
of_positions ys = (λ n. rw n refl, λ n. rw n refl)

-- ---- near_match: both names for 12, then both for 10. Fails: the first name's 10 before the second's 12

first_name : (ys : List ℕ)
    → (length ys ≡ 16777215 → search_two [] 1 (0xFF ∷ ys) a 0 ≡ refused 10 0 0)
    × (length ys ≡ 16777216 → search_two [] 1 (0xFF ∷ ys) a 0 ≡ refused 12 0 0)
unfolding asking
first_name ys = (λ n. rw n refl, λ n. rw n refl)

second_name : (ys : List ℕ)
    → (length ys ≡ 16777215 → search_two [] 1 (0xFF ∷ []) (0xFF ∷ ys) 0 ≡ refused 10 0 0)
    × (length ys ≡ 16777216 → search_two [] 1 (0xFF ∷ []) (0xFF ∷ ys) 0 ≡ refused 12 0 0)
unfolding asking
second_name ys = (λ n. rw n refl, λ n. rw n refl)

-- ---- a question's text, without ends, which is 11

of_text : (xs : List ℕ)
    → (length xs ≡ 16777216 → search_text [] Phrase xs [] 0 ≡ refused 11 0 0)
    × (length xs ≡ 16777217 → search_text [] Phrase xs [] 0 ≡ refused 12 0 0)
unfolding asking
of_text xs = (λ n. rw n refl, λ n. rw n refl)

-- 128 sounds pass: here 128 empty names, which no segment has. Fails: a limit of 127
many_names : search_text segment_of_uneven Phrase [] (replicate 128 0) 0 ≡ Ok []
unfolding asking
many_names = refl

-- 129 give 12, before 11 (the ends are not the text's) and before the segment. Fails: a limit of 129, 11 before 12
too_many_names : search_text [] Phrase [] (replicate 129 1) 0 ≡ refused 12 0 0
unfolding asking
too_many_names = refl
