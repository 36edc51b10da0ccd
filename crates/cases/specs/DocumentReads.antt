-- The calls on documents, put to a segment of three documents and one term. A lent buffer keeps its places past the answer, and all of them
-- after a refusal.
use Rattle.cases.specs.Digits.{refusal_of, refused}
use Rattle.std.specs.Prelude.{Err, None, Ok, Some, ◌≡◌, refl, [], ◌∷◌}
use Rattle.segment.specs.Opening.{open_segment}
use Rattle.calls.specs.Replies.{opened, length_answer}
use Rattle.calls.specs.Reads.{document_lengths, document_len}
use Rattle.read_documents.specs.Promise.{LengthsAnswered}
use Rattle.cases.specs.Through.{calling}
use Rattle.cases.specs.Segments.{segment_of_uneven}
use Rattle.cases.specs.Faulty.{two_faults}

-- ---- open itself answers the counts of bars and sounds

-- Fails: the counts swapped
counts : opened (open_segment segment_of_uneven) ≡ Ok (record { documents = 3; terms = 1 })
unfolding calling
counts = refl

-- or the refusal. Fails: counts of 0 for bytes that are no segment
no_counts : opened (open_segment []) ≡ Err (refusal_of 1 1 0)
unfolding calling
no_counts = refl

-- ---- document_lengths: ids, lengths

-- each length beside its id, the buffers' other places unchanged. Fails: the lists swapped, tails cleared
lengths : LengthsAnswered segment_of_uneven (90 ∷ 91 ∷ 92 ∷ 93 ∷ []) (80 ∷ 81 ∷ 82 ∷ 83 ∷ 84 ∷ []) (Ok 3)
    (2 ∷ 9 ∷ 70000 ∷ 93 ∷ []) (5 ∷ 300 ∷ 4096 ∷ 83 ∷ 84 ∷ [])
unfolding calling
lengths = record { reply = refl; ids_left = refl; lengths_left = refl }

-- room for exactly three is enough. Fails: 13 while places suffice
lengths_exact : LengthsAnswered segment_of_uneven (90 ∷ 91 ∷ 92 ∷ []) (80 ∷ 81 ∷ 82 ∷ []) (Ok 3) (2 ∷ 9 ∷ 70000 ∷ [])
    (5 ∷ 300 ∷ 4096 ∷ [])
unfolding calling
lengths_exact = record { reply = refl; ids_left = refl; lengths_left = refl }

-- both one short: the first short one. Fails: index the buffer's length, the second buffer first
ids_short : LengthsAnswered segment_of_uneven (90 ∷ 91 ∷ []) (80 ∷ 81 ∷ []) (Err (refusal_of 13 1 3))
    (90 ∷ 91 ∷ []) (80 ∷ 81 ∷ [])
unfolding calling
ids_short = record { reply = refl; ids_left = refl; lengths_left = refl }

-- the second one short: neither is filled. Fails: the second test on the first buffer, ids filled before
lengths_short : LengthsAnswered segment_of_uneven (90 ∷ 91 ∷ 92 ∷ []) (80 ∷ 81 ∷ [])
    (Err (refusal_of 13 2 3)) (90 ∷ 91 ∷ 92 ∷ []) (80 ∷ 81 ∷ [])
unfolding calling
lengths_short = record { reply = refl; ids_left = refl; lengths_left = refl }

-- the segment before 13. Fails: room tested first
opening_before_room : document_lengths [] 0 0 ≡ refused 1 1 0
unfolding calling
opening_before_room = refl

-- no list is decoded. Fails: 7
lengths_undecoded : document_lengths two_faults 1 1 ≡ Ok (record { id = 0; len = 1 } ∷ [])
unfolding calling
lengths_undecoded = refl

-- ---- document_len

-- the first. Fails: the first bar missed
len_first : document_len segment_of_uneven 2 ≡ Ok (Some 5)
unfolding calling
len_first = refl

-- the last. Fails: the last bar missed
len_last : document_len segment_of_uneven 70000 ≡ Ok (Some 4096)
unfolding calling
len_last = refl

-- an unknown bar's length is "absent". Fails: the next id's length, 0
len_between : document_len segment_of_uneven 3 ≡ Ok None
unfolding calling
len_between = refl

-- past the last. Fails: the last one's length
len_after : document_len segment_of_uneven 70001 ≡ Ok None
unfolding calling
len_after = refl

-- the segment is opened. Fails: absent for bytes that are no segment
len_refused : document_len [] 2 ≡ refused 1 1 0
unfolding calling
len_refused = refl

-- as replies. Fails: absent for known
known : length_answer (document_len segment_of_uneven 9) ≡ (Ok (Some 300))
unfolding calling
known = refl

-- an unknown one. Fails: a length of 0
absent : length_answer (document_len segment_of_uneven 0) ≡ (Ok None)
unfolding calling
absent = refl
