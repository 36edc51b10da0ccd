-- What is claimed of the definitions: each test is the same as its words, and so is a name's column. Proved in proofs/: WellNamed,
-- WellFormed, Whole, Passing, Accepts, Sizes, Characters, Ordered, Ranks, Beside.
use Rattle.std.specs.Prelude.{Err, Ok, Option}
use Rattle.std.specs.Prelude.{ℕ, ◌+◌, ◌-◌, ◌*◌, ◌≤◌, ◌<◌, ◌≡◌, true, false, List, [], ◌∷◌, ◌++◌, map, ◌↔◌, length, take, replicate, get_or}
use Rattle.common.specs.Elements.{◌∈◌}
use Rattle.utf8.specs.Utf8.{Scalars, text, IsUtf8, decoded}
use Rattle.segment.specs.declared.refusal.Refusal.{Refusal}
use Rattle.segment.specs.Refusals.{no_room}
use Rattle.segment.specs.Texts.{names}
use Rattle.segment.specs.Opening.{open_segment}
use Rattle.rules.specs.declared.rule.Rule.TheVariants.{Phrase}
use Rattle.rules.specs.Words.{FitsSoOften}
use Rattle.calls.specs.Lookups.{well_named, postings_of, positions_of}
use Rattle.calls.specs.Questions.{check_question, WellFormed, two_checks, search_text}
use Rattle.calls.specs.Order.{Match, match_of, StandsBefore, stands_before, BestFirst, ranked, occurs, match_occurs}
use Rattle.calls.specs.Ranked.{search_ranked, match_ids}
use Rattle.calls.specs.Whole.{whole_segment, Whole}
use Rattle.calls.specs.Given.{Lists}
use Rattle.calls.specs.Checks.{check_lists}
use Rattle.calls.specs.Acceptance.{ListsFine, Writable}
use Rattle.calls.specs.Writing.{write}
use Rattle.calls.specs.Sizes.{postings_size}
use Rattle.calls.specs.Listing.{shown, name_column, listing}
use Rattle.segment.specs.Records.{Posting, Segment}

-- a questioned name passes exactly when it has at most 16,777,216 bytes and is UTF-8
abbrev pub WellNamedExactly : Type 0
WellNamedExactly = (name : List ℕ) → (well_named name ≡ Ok tt) ↔ ((length name ≤ 16777216) × IsUtf8 name)

-- kinds 12, 11 and 10 refuse exactly the questions that are not well-formed
abbrev pub PassesExactly : Type 0
PassesExactly = (text ends : List ℕ) → (check_question text ends ≡ Ok tt) ↔ WellFormed text ends

-- two names pass exactly when each has at most 16,777,216 bytes and is UTF-8
abbrev pub TwoPassExactly : Type 0
TwoPassExactly =
    (a b : List ℕ) → (two_checks a b ≡ Ok tt) ↔ ((length a ≤ 16777216) × (length b ≤ 16777216) × IsUtf8 a × IsUtf8 b)

-- a segment is read whole exactly when it opens and every list of its directory decodes
abbrev pub WholeExactly : Type 0
WholeExactly = (bytes : List ℕ) (s : Segment) → (whole_segment bytes ≡ Ok s) ↔ Whole bytes s

-- the writer's checks pass exactly what document 01 names no refusal for, apart from the room
abbrev pub ChecksExactly : Type 0
ChecksExactly = (l : Lists) → (check_lists l ≡ Ok tt) ↔ ListsFine l

-- the writer accepts exactly what document 01 names no refusal for
abbrev pub AcceptsExactly : Type 0
AcceptsExactly = (l : Lists) (room : ℕ) → ((bytes : List ℕ) × (write l room ≡ Ok bytes)) ↔ Writable l room

-- document 01: k positions with their id and count take k + 2 to 5k + 10 bytes
abbrev pub PostingTakes : Type 0
PostingTakes =
    (previous : Option ℕ) (p : Posting)
    → (length p.positions + 2 ≤ postings_size previous (p ∷ [])) × (postings_size previous (p ∷ []) ≤ 5 * length p.positions + 10)

-- document 02, wish 1: of a name that is the encoding of these characters, the column is the encoding of the first `width` of them, with ?
-- for each below 32 and 127, then a space for each character fewer than `width`
abbrev pub NameByCharacters : Type 0
NameByCharacters =
    (width : ℕ) (values : List ℕ) → Scalars values
    → name_column width (text values) ≡ text (map shown (take width values)) ++ replicate (width - length values) 32

-- never half a character: whatever the name's bytes, its column is UTF-8, of exactly `width` characters
abbrev pub ColumnWhole : Type 0
ColumnWhole = (width : ℕ) (name : List ℕ) → IsUtf8 (name_column width name) × (length (decoded (name_column width name)) ≡ width)

-- every listing is a text in UTF-8, a refusal's line too
abbrev pub ListingUtf8 : Type 0
ListingUtf8 = (bytes : List ℕ) → IsUtf8 (listing bytes)

-- ---- document 02, wish 5

-- the order's test is the order in words
abbrev pub OrderExactly : Type 0
OrderExactly = (p q : Match) → (stands_before p q ≡ true) ↔ StandsBefore p q

-- whatever is ranked, the result has the same matches, each as often, and none stands before an earlier one; no other list is so
abbrev pub NoneBefore : List Match → Type 0
NoneBefore ms =
    (i j : ℕ) → i < j → j < length ms → stands_before (get_or ms j (match_of 0 0)) (get_or ms i (match_of 0 0)) ≡ false

pub record Ranks : Type 0 where
  pub same : (ms : List Match) (p : Match) → match_occurs p (ranked ms) ≡ match_occurs p ms
  pub in_order : (ms : List Match) → NoneBefore (ranked ms)
  pub only : (ms others : List Match) → ((p : Match) → match_occurs p others ≡ match_occurs p ms) → NoneBefore others → others ≡ ranked ms

-- the ranked answer beside the plain one: a permutation of its ids, the best first, each with the number of its starts
pub record Ranking (ids : List ℕ) (own : ℕ → List ℕ → List ℕ) (ns : List (List ℕ)) (found : List Match) : Type 0 where
  pub permutes : (d : ℕ) → occurs d (match_ids found) ≡ occurs d ids
  pub sorted : BestFirst found
  pub counts : (m : Match) → m ∈ found → FitsSoOften (own m.doc) ns m.count

-- these words leave no choice
abbrev pub RankingOnly : Type 0
RankingOnly =
    (ids : List ℕ) (own : ℕ → List ℕ → List ℕ) (ns : List (List ℕ)) (found others : List Match)
    → Ranking ids own ns found → Ranking ids own ns others → found ≡ others

-- documents' own positions of the names, in a segment
pub record OwnIn (bytes : List ℕ) (ns : List (List ℕ)) (own : ℕ → List ℕ → List ℕ) : Type 0 where
  pub segment : Segment
  pub opens : open_segment bytes ≡ Ok segment
  pub positions : (n : List ℕ) → n ∈ ns → (ps : List Posting) × (postings_of segment n ≡ Ok ps) × ((d : ℕ) → own d n ≡ positions_of ps d)

-- with the same room for ids, the ranked search refuses what the plain search refuses, with its refusal; what the plain search answers it
-- refuses for want of room for the counts alone; else it answers, ranked
pub record BesidePlain (bytes text ends : List ℕ) (id_room count_room : ℕ) : Type 0 where
  pub refused : (x : Refusal) → search_text bytes Phrase text ends id_room ≡ Err x
      → search_ranked bytes text ends id_room count_room ≡ Err x
  pub no_counts : (ids : List ℕ) → search_text bytes Phrase text ends id_room ≡ Ok ids → count_room < length ids
      → search_ranked bytes text ends id_room count_room ≡ Err (no_room 2 (length ids))
  pub answered : (ids : List ℕ) → search_text bytes Phrase text ends id_room ≡ Ok ids → length ids ≤ count_room
      → (found : List Match) × (own : ℕ → List ℕ → List ℕ) × (search_ranked bytes text ends id_room count_room ≡ Ok found)
      × OwnIn bytes (names 0 ends text) own × Ranking ids own (names 0 ends text) found

abbrev pub RankedBeside : Type 0
RankedBeside = (bytes text ends : List ℕ) (id_room count_room : ℕ) → BesidePlain bytes text ends id_room count_room
