-- The ranked answer to a phrase (document 02, wish 5): the plain answer's documents, each with the number of different starts at which the
-- phrase fits in it, in the order of specs/Order.antt. The refusals before 13 are the plain search's; 13 looks at ids, then counts.
use Rattle.std.specs.Prelude.{Ok, ℕ, cond, List, [], map, length}
use Rattle.segment.specs.Results.{Answer, roomy, ◌>>=◌}
use Rattle.segment.specs.Records.{Term, Segment, Document}
use Rattle.segment.specs.Texts.{names}
use Rattle.segment.specs.Opening.{open_segment}
use Rattle.rules.specs.declared.rule.Rule.TheVariants.{Phrase}
use Rattle.rules.specs.Kinds.{idle}
use Rattle.rules.specs.Rules.{starts_count}
use Rattle.rules.specs.Different.{different}
use Rattle.calls.specs.Questions.{check_question, decode_names, decoded_positions, answer}
use Rattle.calls.specs.Order.{Match, match_of, ranked}

-- documents, each with its count
abbrev pub with_counts : (own : ℕ → List ℕ → List ℕ) → List (List ℕ) → List ℕ → List Match
with_counts own ns ids = map (λ d. match_of d (starts_count (own d) ns)) ids

-- the plain answer's documents, ranked
unfoldable pub ranked_answer : List (List ℕ) → List Document → List Term → List Match
ranked_answer ns documents ts = ranked (with_counts (decoded_positions ts) ns (answer Phrase ns documents ts))

unfoldable pub ranked_answers : Segment → List (List ℕ) → Answer (List Match)
ranked_answers s ns =
    let asked = decode_names s (different ns) >>= λ ts. Ok (ranked_answer ns s.documents ts) in
    cond (idle Phrase (length ns)) (Ok []) asked

-- phrase_match_ranked: how many places are lent for ids, and how many for counts
unfoldable pub search_ranked : (bytes text ends : List ℕ) (id_room count_room : ℕ) → Answer (List Match)
search_ranked bytes text ends id_room count_room = do
  _ ← check_question text ends
  s ← open_segment bytes
  found ← ranked_answers s (names 0 ends text)
  _ ← roomy 1 (length found) id_room
  _ ← roomy 2 (length found) count_room
  Ok found

-- what goes into the buffers
abbrev pub match_ids : List Match → List ℕ
match_ids ms = map (λ m. m.doc) ms

abbrev pub match_counts : List Match → List ℕ
match_counts ms = map (λ m. m.count) ms
