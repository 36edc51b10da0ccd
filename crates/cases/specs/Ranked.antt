-- The ranked answer (document 02, wish 5), put to document 01's two bars (Written.antt) and to four bars with equal counts: how many are
-- found, each with its id and the number of its starts, in their order; and the refusals.
use Rattle.std.specs.Prelude.{Ok, ℕ, ◌≡◌, refl, List, [], ◌∷◌, ◌++◌}
use Rattle.crc32.specs.Crc32.{crc32_of}
use Rattle.segment.specs.Results.{Answer}
use Rattle.calls.specs.Order.{Match, match_of}
use Rattle.calls.specs.Ranked.{search_ranked}
use Rattle.cases.specs.Through.{ranking}
use Rattle.cases.specs.Digits.{refused}
use Rattle.cases.specs.Sealing.{sealed, entry}
use Rattle.cases.specs.Segments.{kick, snare, segment_of_two}
use Rattle.cases.specs.Faulty.{two_faults, wrong_checksum}

abbrev asked : (text ends : List ℕ) → Answer (List Match)
asked text ends = search_ranked segment_of_two text ends 2 2

-- ---- the two bars: kick in 3 on 0, 4, 15 and in 7 on 2; snare in 3 on 8, 14 and in 7 on 3, 4

-- kick: 3 hits in bar 3, 1 in bar 7. Fails: the least first
kick_alone : asked kick (4 ∷ []) ≡ Ok (match_of 3 3 ∷ match_of 7 1 ∷ [])
unfolding ranking
kick_alone = refl

-- snare: twice in both: the lower id first. Fails: ties by the higher id
snare_alone : asked snare (5 ∷ []) ≡ Ok (match_of 3 2 ∷ match_of 7 2 ∷ [])
unfolding ranking
snare_alone = refl

-- kick snare: only bar 7, once. Fails: bar 3 listed with 0
kick_snare : asked (kick ++ snare) (4 ∷ 9 ∷ []) ≡ Ok (match_of 7 1 ∷ [])
unfolding ranking
kick_snare = refl

-- no sounds: none. Fails: every bar
no_sounds : asked [] [] ≡ Ok []
unfolding ranking
no_sounds = refl

-- ---- bars 1, 2, 4, 9 of 8 steps; a in 1 on 0, 1, 2, 3, in 2 on 0, 1, in 4 on 1, 2, 4, in 9 on 0, 2, 4, 5

abbrev list_of_a : List ℕ
list_of_a =
    0x01 ∷ 0x04 ∷ 0x00 ∷ 0x01 ∷ 0x01 ∷ 0x01 ∷ 0x01 ∷ 0x02 ∷ 0x00 ∷ 0x01 ∷ 0x02 ∷ 0x03 ∷ 0x01 ∷ 0x01 ∷ 0x02
    ∷ 0x05 ∷ 0x04 ∷ 0x00 ∷ 0x02 ∷ 0x02 ∷ 0x01 ∷ []

abbrev four_bars : List ℕ
four_bars =
    sealed 4 1 (entry 0 1 0 21 4 (crc32_of list_of_a)) (0x61 ∷ [])
    (0x01 ∷ 0x08 ∷ 0x01 ∷ 0x08 ∷ 0x02 ∷ 0x08 ∷ 0x05 ∷ 0x08 ∷ []) list_of_a

-- a a: bar 1 starts on 0, 1 and 2, the others once each. Fails: starts that overlap counted once, ties by the higher id
twice_a : search_ranked four_bars (0x61 ∷ 0x61 ∷ []) (1 ∷ 2 ∷ []) 4 4
    ≡ Ok (match_of 1 3 ∷ match_of 2 1 ∷ match_of 4 1 ∷ match_of 9 1 ∷ [])
unfolding ranking
twice_a = refl

-- a: 4, 2, 3 and 4 hits. Fails: ids in the plain answer's order
once_a : search_ranked four_bars (0x61 ∷ []) (1 ∷ []) 4 4
    ≡ Ok (match_of 1 4 ∷ match_of 9 4 ∷ match_of 4 3 ∷ match_of 2 2 ∷ [])
unfolding ranking
once_a = refl

-- ---- 13, of ids, then of counts; the index is how many were found

-- room for neither. Fails: 13 2
no_room : search_ranked segment_of_two (kick ++ snare) (4 ∷ 9 ∷ []) 0 0 ≡ refused 13 1 1
unfolding ranking
no_room = refl

-- one place for ids, none for counts. Fails: 13 1, an answer without counts
no_counts : search_ranked segment_of_two (kick ++ snare) (4 ∷ 9 ∷ []) 1 0 ≡ refused 13 2 1
unfolding ranking
no_counts = refl

-- ids one short, counts shorter still. Fails: 13 2
ids_short : search_ranked segment_of_two snare (5 ∷ []) 1 0 ≡ refused 13 1 2
unfolding ranking
ids_short = refl

-- counts one short. Fails: the sum of the counts for an index
counts_short : search_ranked segment_of_two kick (4 ∷ []) 9 1 ≡ refused 13 2 2
unfolding ranking
counts_short = refl

-- nothing found needs no room. Fails: 13
none_found : search_ranked segment_of_two (kick ++ kick) (4 ∷ 8 ∷ []) 0 0 ≡ Ok []
unfolding ranking
none_found = refl

-- ---- before 13 the plain search's refusals

-- a text without ends. Fails: 1 1
shape : search_ranked [] (0x61 ∷ []) [] 9 9 ≡ refused 11 0 0
unfolding ranking
shape = refl

-- a name that is not UTF-8, put to no segment at all. Fails: 1 1
name : search_ranked [] (0xFF ∷ []) (1 ∷ []) 9 9 ≡ refused 10 0 0
unfolding ranking
name = refl

-- no sounds: the segment is opened all the same. Fails: none
opened_first : search_ranked [] [] [] 9 9 ≡ refused 1 1 0
unfolding ranking
opened_first = refl

-- lists are decoded in the order named, before room is looked at. Fails: 7 5, 13
decoded_first : search_ranked two_faults (0x62 ∷ 0x61 ∷ []) (1 ∷ 2 ∷ []) 0 0 ≡ refused 6 11 0
unfolding ranking
decoded_first = refl

-- and though another name is unknown. Fails: none found
decoded_though_unknown : search_ranked wrong_checksum (0x7A ∷ 0x61 ∷ []) (1 ∷ 2 ∷ []) 0 0 ≡ refused 5 6 0
unfolding ranking
decoded_though_unknown = refl
