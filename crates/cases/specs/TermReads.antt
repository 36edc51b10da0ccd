-- The calls on terms, put to a segment of three documents and two terms: a in 2 on 4 and in 70000 on 0, 5, 4095; b in 9 on 7; and to one
-- with hat in 9 on 0, 128, 299. A lent buffer keeps its places past the answer, and all of them after a refusal.
use Rattle.cases.specs.Digits.{refusal_of, refused}
use Rattle.std.specs.Prelude.{Err, Ok, ◌≡◌, refl, [], ◌∷◌, ◌++◌}
use Rattle.calls.specs.Reads.{df, docs_with_term, term_postings, positions}
use Rattle.read_terms.specs.Promise.{DocsAnswered}
use Rattle.calls.specs.Replies.{df_answer}
use Rattle.read_positions.specs.Promise.{PostingsAnswered, PositionsAnswered}
use Rattle.cases.specs.Through.{calling}
use Rattle.cases.specs.Sealing.{posting}
use Rattle.cases.specs.Segments.{hat, a, b, segment_of_uneven, segment_of_spread}
use Rattle.cases.specs.Faulty.{two_faults, late_fault, large_df, wrong_checksum}

-- ---- df: what is stored, no list decoded

-- one bar of three. Fails: the number of bars, of positions
df_hat : df segment_of_uneven hat ≡ Ok 1
unfolding calling
df_hat = refl

-- two. Fails: another entry's
df_a : df segment_of_spread a ≡ Ok 2
unfolding calling
df_a = refl

-- one. Fails: the first entry's
df_b : df segment_of_spread b ≡ Ok 1
unfolding calling
df_b = refl

-- an unknown sound has df 0: ha. Fails: a beginning found
df_beginning : df segment_of_uneven (0x68 ∷ 0x61 ∷ []) ≡ Ok 0
unfolding calling
df_beginning = refl

-- hats. Fails: a name found in what it begins
df_longer : df segment_of_uneven (hat ++ 0x73 ∷ []) ≡ Ok 0
unfolding calling
df_longer = refl

-- the empty name is a name like another. Fails: 6 6 0, the first entry's
df_empty : df segment_of_uneven [] ≡ Ok 0
unfolding calling
df_empty = refl

-- df 2^32 - 1 over one posting. Fails: the postings counted, the list decoded
df_largest : df large_df a ≡ Ok 4294967295
unfolding calling
df_largest = refl

-- a list that does not decode. Fails: 7
df_undecoded : df two_faults a ≡ Ok 1
unfolding calling
df_undecoded = refl

-- 10 before the segment is opened. Fails: 1
df_name_first : df [] (0xFF ∷ []) ≡ refused 10 0 0
unfolding calling
df_name_first = refl

-- as replies. Fails: 0 for known
df_reply : df_answer (df segment_of_spread a) ≡ Ok 2
unfolding calling
df_reply = refl

-- ---- docs_with_term: ids

-- ids, not gaps. Fails: 69998, places past the answer cleared
docs : DocsAnswered segment_of_spread a (90 ∷ 91 ∷ 92 ∷ []) (Ok 2) (2 ∷ 70000 ∷ 92 ∷ [])
unfolding calling
docs = record { reply = refl; ids_left = refl }

-- 13. Fails: `<=` at the room, ids as far as they go
docs_short : DocsAnswered segment_of_spread a (90 ∷ []) (Err (refusal_of 13 1 2)) (90 ∷ [])
unfolding calling
docs_short = record { reply = refl; ids_left = refl }

-- an unknown sound has no postings, and needs no room. Fails: an unknown sound refused
docs_unknown : docs_with_term segment_of_spread hat 0 ≡ Ok []
unfolding calling
docs_unknown = refl

-- 10 before the segment is opened. Fails: 1
docs_name_first : docs_with_term [] (0xFF ∷ []) 9 ≡ refused 10 0 0
unfolding calling
docs_name_first = refl

-- then the segment. Fails: none for bytes that are no segment
docs_opened : docs_with_term [] a 9 ≡ refused 1 1 0
unfolding calling
docs_opened = refl

-- the list before 13. Fails: 13 by the stored df
docs_list_first : docs_with_term two_faults a 0 ≡ refused 7 5 0
unfolding calling
docs_list_first = refl

-- its checksum too. Fails: 13
docs_checksum : docs_with_term wrong_checksum a 0 ≡ refused 5 6 0
unfolding calling
docs_checksum = refl

-- df 2^32 - 1: the second posting is not there. Fails: 13 by the stored df
docs_df : docs_with_term large_df a 0 ≡ refused 7 5 1
unfolding calling
docs_df = refl

-- ---- term_postings: ids, counts, positions

-- two postings, four positions. Fails: the first posting's alone, gaps for positions, counts for ids
postings : PostingsAnswered segment_of_spread a (90 ∷ 91 ∷ 92 ∷ []) (80 ∷ 81 ∷ 82 ∷ []) (70 ∷ 71 ∷ 72 ∷ 73 ∷ 74 ∷ [])
    (Ok (record { postings = 2; positions = 4 })) (2 ∷ 70000 ∷ 92 ∷ []) (1 ∷ 3 ∷ 82 ∷ []) (4 ∷ 0 ∷ 5 ∷ 4095 ∷ 74 ∷ [])
unfolding calling
postings = record { reply = refl; ids_left = refl; counts_left = refl; positions_left = refl }

-- all one short: the ids'. Fails: 13 1 1, the last short one
postings_1 : term_postings segment_of_spread a 1 1 3 ≡ refused 13 1 2
unfolding calling
postings_1 = refl

-- counts and positions one short: the counts'. Fails: the first buffer tested twice
postings_2 : term_postings segment_of_spread a 2 1 3 ≡ refused 13 2 2
unfolding calling
postings_2 = refl

-- positions one short: no buffer is filled. Fails: 13 by the number of postings, two filled before the third is tested
postings_3 : PostingsAnswered segment_of_spread a (90 ∷ 91 ∷ []) (80 ∷ 81 ∷ []) (70 ∷ 71 ∷ 72 ∷ [])
    (Err (refusal_of 13 3 4)) (90 ∷ 91 ∷ []) (80 ∷ 81 ∷ []) (70 ∷ 71 ∷ 72 ∷ [])
unfolding calling
postings_3 = record { reply = refl; ids_left = refl; counts_left = refl; positions_left = refl }

-- one posting of three positions, in exactly that room. Fails: 13 while places suffice
postings_uneven : term_postings segment_of_uneven hat 1 1 3 ≡ Ok (posting 9 (0 ∷ 128 ∷ 299 ∷ []) ∷ [])
unfolding calling
postings_uneven = refl

-- Fails: 13 3 1
postings_uneven_3 : term_postings segment_of_uneven hat 1 1 2 ≡ refused 13 3 3
unfolding calling
postings_uneven_3 = refl

-- an unknown sound. Fails: an unknown sound refused
postings_unknown : term_postings segment_of_uneven a 0 0 0 ≡ Ok []
unfolding calling
postings_unknown = refl

-- 10 before the segment is opened. Fails: 1
postings_name_first : term_postings [] (0xFF ∷ []) 9 9 9 ≡ refused 10 0 0
unfolding calling
postings_name_first = refl

-- the list before 13. Fails: 13
postings_list_first : term_postings late_fault a 0 0 0 ≡ refused 6 9 0
unfolding calling
postings_list_first = refl

-- ---- positions: one buffer

-- those of the bar that is named. Fails: the whole list's, the first bar's
steps : PositionsAnswered segment_of_spread a 70000 (90 ∷ 91 ∷ 92 ∷ 93 ∷ []) (Ok 3) (0 ∷ 5 ∷ 4095 ∷ 93 ∷ [])
unfolding calling
steps = record { reply = refl; positions_left = refl }

-- 13 by that bar's count. Fails: by the list's total, 4
steps_short : PositionsAnswered segment_of_spread a 70000 (90 ∷ 91 ∷ []) (Err (refusal_of 13 1 3))
    (90 ∷ 91 ∷ [])
unfolding calling
steps_short = record { reply = refl; positions_left = refl }

-- the first bar's, in exactly that room. Fails: 13 by the list's total
steps_first : positions segment_of_spread a 2 1 ≡ Ok (4 ∷ [])
unfolding calling
steps_first = refl

-- a bar without the sound: none. Fails: the next bar's
steps_none : positions segment_of_spread a 9 0 ≡ Ok []
unfolding calling
steps_none = refl

-- an unknown bar: none. Fails: 10 of kind 6
steps_unknown : positions segment_of_spread a 3 0 ≡ Ok []
unfolding calling
steps_unknown = refl

-- an unknown sound: none. Fails: an unknown sound refused
steps_of_unknown : positions segment_of_spread hat 2 0 ≡ Ok []
unfolding calling
steps_of_unknown = refl

-- the whole list is decoded, whichever bar is named: the fault stands after bar 0. Fails: decoding that stops at the bar
steps_whole : positions late_fault a 0 1 ≡ refused 6 9 0
unfolding calling
steps_whole = refl

-- an unknown bar too. Fails: none
steps_whole_unknown : positions late_fault a 7 0 ≡ refused 6 9 0
unfolding calling
steps_whole_unknown = refl

-- 10 before the segment is opened. Fails: 1
steps_name_first : positions [] (0xFF ∷ []) 0 9 ≡ refused 10 0 0
unfolding calling
steps_name_first = refl
