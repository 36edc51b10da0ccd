-- The calls that ask (document 01, "The search"): kinds 12, 11 and 10; then the segment is opened, every different name decoded in the
-- order named, the answer found; last 13.
use Rattle.std.specs.Prelude.{Ok, ℕ, ◌≤◌, ◌&&◌, cond, List, [], ◌∷◌, map, leb, length}
use Rattle.common.specs.Elements.{◌∈◌}
use Rattle.utf8.specs.Utf8.{utf8, IsUtf8}
use Rattle.segment.specs.Refusals.{too_large, list_shape, invalid_utf8}
use Rattle.segment.specs.Results.{Answer, check, roomy, ◌>>=◌}
use Rattle.segment.specs.Texts.{ends_fit, names, TextShape}
use Rattle.segment.specs.Records.{Posting, Term, Segment, Document}
use Rattle.segment.specs.Names.{same}
use Rattle.calls.specs.Lookups.{postings_of, positions_of}
use Rattle.segment.specs.Opening.{open_segment}
use Rattle.common.specs.Members.{kept}
use Rattle.rules.specs.declared.rule.Rule.{Rule}
use Rattle.rules.specs.declared.rule.Rule.TheVariants.{Unordered}
use Rattle.rules.specs.Kinds.{meets, idle}
use Rattle.rules.specs.Different.{different}

-- ---- the checks of a question

unfoldable pub check_names : List (List ℕ) → Answer (Unit {0})
check_names [] = Ok tt
check_names (n ∷ ns) = do
  _ ← check (utf8 n) invalid_utf8
  check_names ns

unfoldable pub check_question : (text ends : List ℕ) → Answer (Unit {0})
check_question text ends = do
  _ ← check (leb (length text) 16777216 && leb (length ends) 128) too_large
  _ ← check (ends_fit 0 ends (length text)) list_shape
  check_names (names 0 ends text)

-- The same in words: a question is well-formed with at most 128 names, a text of at most 16,777,216 bytes whose ends never fall and come to
-- its length, and each name is UTF-8
pub record WellFormed (text ends : List ℕ) : Type 0 where
  pub few : length ends ≤ 128
  pub small : length text ≤ 16777216
  pub shape : TextShape text ends
  pub each : (n : List ℕ) → n ∈ names 0 ends text → IsUtf8 n

-- kinds 12 and 10 of two names
unfoldable pub two_checks : (a b : List ℕ) → Answer (Unit {0})
two_checks a b = do
  _ ← check (leb (length a) 16777216 && leb (length b) 16777216) too_large
  check_names (a ∷ b ∷ [])

-- ---- the names in a segment

-- each of the names decoded; the first failing one's refusal stands
unfoldable pub decode_names : Segment → List (List ℕ) → Answer (List Term)
decode_names s [] = Ok []
decode_names s (n ∷ ns) = do
  ps ← postings_of s n
  more ← decode_names s ns
  Ok (record { name = n; postings = ps } ∷ more)

-- the postings under a name; none where there is none
unfoldable pub under : List Term → (name : List ℕ) → List Posting
under [] n = []
under (t ∷ ts) n = let later = under ts n in cond (same t.name n) t.postings later

-- a document's positions of a name, in the decoded lists
abbrev pub decoded_positions : List Term → (doc : ℕ) → (name : List ℕ) → List ℕ
decoded_positions ts d n = positions_of (under ts n) d

-- ---- the answer

-- the ids of the documents that meet the rule, in the segment's order
unfoldable pub answer : Rule → List (List ℕ) → List Document → List Term → List ℕ
answer rule ns documents ts = map (λ d. d.id) (kept (λ d. meets rule (decoded_positions ts d.id) ns) documents)

unfoldable pub answers : Segment → Rule → List (List ℕ) → Answer (List ℕ)
answers s rule ns =
    let asked = decode_names s (different ns) >>= λ ts. Ok (answer rule ns s.documents ts) in
    cond (idle rule (length ns)) (Ok []) asked

-- names that passed their tests, put to the bytes of a segment; `room` is how many places are lent for ids
unfoldable pub search : (bytes : List ℕ) → Rule → List (List ℕ) → (room : ℕ) → Answer (List ℕ)
search bytes rule ns room = do
  s ← open_segment bytes
  ids ← answers s rule ns
  _ ← roomy 1 (length ids) room
  Ok ids

-- ---- the calls: kinds 12, 11 and 10 first

-- phrase_match_strs and near_match_terms_strs: several names in one text
unfoldable pub search_text : (bytes : List ℕ) → Rule → (text ends : List ℕ) (room : ℕ) → Answer (List ℕ)
search_text bytes rule text ends room = do
  _ ← check_question text ends
  search bytes rule (names 0 ends text) room

-- near_match: two names, in any order
unfoldable pub search_two : (bytes : List ℕ) (window : ℕ) (a b : List ℕ) (room : ℕ) → Answer (List ℕ)
search_two bytes window a b room = do
  _ ← two_checks a b
  search bytes (Unordered window) (a ∷ b ∷ []) room
