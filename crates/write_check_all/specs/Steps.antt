-- The flat lists taken term by term: the terms still to come, and what a step of the walk asks.
use Rattle.segment.specs.Results.{Answer}
use Rattle.std.specs.Prelude.{ℕ, ◌+◌, ◌≤◌, ◌<◌, ◌≡◌, true, List, length, take, drop, get_or}
use Rattle.segment.specs.Records.{Term}
use Rattle.segment.specs.Texts.{names}
use Rattle.common.specs.Lists.{paired, parts, total}
use Rattle.write_lookup.specs.Steps.{RisingByIndex}
use Rattle.write_check_all.specs.declared.walk.Walk.{Walk}
use Rattle.segment.specs.Written.{lists_bytes}
use Rattle.calls.specs.Checks.{small as small_test, shaped as shaped_test, check_lists}
use Rattle.calls.specs.Given.{Lists, given, term, postings_in}
use Rattle.write_checks.specs.Steps.{measured}

-- the terms from a point of the walk on
unfoldable pub terms_from : Walk → Lists → List Term
terms_from w l =
    paired term (names w.name (drop w.term l.ends) (drop w.name l.text))
    (parts (drop w.term l.posting_counts)
    (postings_in (drop w.posting l.posting_ids) (drop w.posting l.position_counts) (drop w.position l.positions)))

-- the walk past a term
abbrev pub next_of : Walk → (ends posting_counts position_counts : List ℕ) → Walk
next_of w ends posting_counts position_counts = record {
  term = w.term + 1;
  name = get_or ends w.term 0;
  posting = w.posting + get_or posting_counts w.term 0;
  position = w.position + total (take (get_or posting_counts w.term 0) (drop w.posting position_counts));
}

-- there is a next term, and its postings lie in their list
pub record ShapedFrom (w : Walk) (ends posting_counts position_counts : List ℕ) : Type 0 where
  pub ends_there : w.term < length ends
  pub counts_there : w.term < length posting_counts
  pub inside : w.posting + get_or posting_counts w.term 0 ≤ length position_counts
  pub few : length position_counts ≤ 16777216
  pub low : w.position ≤ 16777216

abbrev pub start_walk : Walk
start_walk = record { term = 0; name = 0; posting = 0; position = 0 }

-- what the checks of terms rest on: the lists passed 12 and 11, and the documents' ids rise
pub record Checkable (l : Lists) : Type 0 where
  pub small : small_test l ≡ true
  pub shaped : shaped_test l ≡ true
  pub rises : RisingByIndex l.ids

-- all lists: the refusal of their checks, or the length of the posting lists
abbrev pub measured_lists : Lists → Answer ℕ
measured_lists l = measured (check_lists l) (length (lists_bytes (given l).terms))
