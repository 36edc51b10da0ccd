-- What is computed over the lists of a phrase's terms, and the answer before its checks.
use Rattle.std.specs.Prelude.{Ok, ℕ, ◌≡◌, List, map, length}
use Rattle.segment.specs.Results.{Answer, roomy, ◌>>=◌}
use Rattle.segment.specs.Records.{Segment}
use Rattle.segment.specs.Steps.{checked}
use Rattle.rules.specs.declared.rule.Rule.TheVariants.{Phrase}
use Rattle.rules.specs.Rules.{starts_count}
use Rattle.calls.specs.Replies.{count_of, filled}
use Rattle.calls.specs.Order.{Match, ranked}
use Rattle.calls.specs.Ranked.{with_counts, ranked_answers, match_ids, match_counts}
use Rattle.read_open.specs.declared.header.Layout.{Layout}
use Rattle.read_open.specs.Opened.{IsOpen}
use Rattle.ask_names.specs.declared.slots.Names.{Names}
use Rattle.ask_walk.specs.Steps.{FoundCounted}
use Rattle.ask_answer.specs.Steps.{Fitting, found_in, Askable}

-- ---- 13, and the replies

-- 13 for ids, then for counts
abbrev pub room_for : (needed id_room count_room : ℕ) → Answer (Unit {0})
room_for needed id_room count_room = do
  _ ← roomy 1 needed id_room
  roomy 2 needed count_room

-- 13, or the matches
abbrev pub roomed : (found : List Match) (id_room count_room : ℕ) → Answer (List Match)
roomed found id_room count_room = do
  _ ← roomy 1 (length found) id_room
  _ ← roomy 2 (length found) count_room
  Ok found

-- a question after its checks and the opening: the ranked answer, and 13
abbrev pub ranked_in : Segment → List (List ℕ) → (id_room count_room : ℕ) → Answer (List Match)
ranked_in s ns id_room count_room = do
  found ← ranked_answers s ns
  roomed found id_room count_room

-- a reply, and both buffers afterwards, made of what the definitions answer
abbrev pub BothFilled : (answer : Answer (List Match)) (ids counts : List ℕ) (r : Answer ℕ) (ids' counts' : List ℕ) → Type 0
BothFilled answer ids counts r ids' counts' =
    (r ≡ count_of answer) × (ids' ≡ filled match_ids answer ids) × (counts' ≡ filled match_counts answer counts)

-- ---- the documents found

-- there are names and own positions that fit the numbers and the lists
pub record FitsSome (bytes : List ℕ) (s : Names) : Type 0 where
  pub own : ℕ → List ℕ → List ℕ
  pub names : List (List ℕ)
  pub fitting : Fitting bytes s own names

-- for all that fit: how many documents, and from the buffers' fronts on, as far as they go, their ids and beside each the number of starts
abbrev pub ListsCounted : (bytes : List ℕ) (s : Names) (ids counts : List ℕ) (r : ℕ) (ids' counts' : List ℕ) → Type 0
ListsCounted bytes s ids counts r ids' counts' =
    (own : ℕ → List ℕ → List ℕ) (ns : List (List ℕ)) → Fitting bytes s own ns
    → let found = found_in bytes s 0 Phrase own ns in
    FoundCounted found (map (λ d. starts_count (own d) ns) found) ids counts r ids' counts'

-- for all that fit: whether both buffers have room for the documents found
abbrev pub RoomChecked : (bytes : List ℕ) (s : Names) (id_room count_room : ℕ) (r : Answer (Unit {0})) → Type 0
RoomChecked bytes s id_room count_room r =
    (own : ℕ → List ℕ → List ℕ) (ns : List (List ℕ)) → Fitting bytes s own ns
    → r ≡ checked (room_for (length (found_in bytes s 0 Phrase own ns)) id_room count_room)

-- for all that fit: the documents of list b that meet the phrase, each with its count, ranked; or 13
pub record ListsRanked (b : ℕ) (bytes : List ℕ) (s : Names) (ids counts : List ℕ) (r : Answer ℕ) (ids' counts' : List ℕ) : Type 0 where
  pub replies : (own : ℕ → List ℕ → List ℕ) (ns : List (List ℕ)) → Fitting bytes s own ns
      → let found = ranked (with_counts own ns (found_in bytes s b Phrase own ns)) in
      BothFilled (roomed found (length ids) (length counts)) ids counts r ids' counts'

-- ---- names resolved, and names in a text

pub record NamesRanked (bytes : List ℕ) (at : Layout) (s : Names) (ids counts : List ℕ) (r : Answer ℕ) (ids' counts' : List ℕ)
    : Type 0 where
  pub replies : (q : Askable bytes at Phrase s)
      → BothFilled (ranked_in q.segment q.names (length ids) (length counts)) ids counts r ids' counts'

pub record LayoutRanked (bytes : List ℕ) (at : Layout) (ns : List (List ℕ)) (ids counts : List ℕ) (r : Answer ℕ)
    (ids' counts' : List ℕ) : Type 0 where
  pub replies : (s : Segment) → IsOpen bytes at s
      → BothFilled (ranked_in s ns (length ids) (length counts)) ids counts r ids' counts'
