-- What is computed over the lists of the names' terms.
use Rattle.std.specs.Prelude.{Err, None, Ok, ℕ, ◌≤◌, ◌<◌, ◌≡◌, Bool, true, false, List, [], map, length, drop, get_or}
use Rattle.segment.specs.Results.{Answer}
use Rattle.common.specs.Members.{kept}
use Rattle.segment.specs.Records.{Posting, Segment}
use Rattle.rules.specs.declared.rule.Rule.{Rule}
use Rattle.rules.specs.Kinds.{meets, idle}
use Rattle.calls.specs.Lookups.{positions_of}
use Rattle.calls.specs.Whole.{every_list}
use Rattle.calls.specs.Kept.{Kept}
use Rattle.read_cursors.specs.Held.{PostingAt, held_postings, posting_of}
use Rattle.read_cursors.specs.declared.postings.Postings.{Postings}
use Rattle.read_cursors.specs.Steps.{postings_from}
use Rattle.read_open.specs.declared.header.Layout.{Layout}
use Rattle.read_open.specs.Opened.{IsOpen, Fits}
use Rattle.read_terms.specs.declared.find.TermList.{TermList}
use Rattle.ask_names.specs.declared.slots.Names.{Names}
use Rattle.ask_names.specs.Steps.{no_list, Numbered, NamesResolved}
use Rattle.ask_names.specs.Lists.{lists_decoded}
use Rattle.ask_walk.specs.Steps.{FoundIds}
use Rattle.ask_answer.specs.Promise.{answer_of, answer_in, Replies}

-- ---- cursors at the lists' first postings

-- the postings of list k, as the bytes hold them
abbrev pub held_in : (bytes : List ℕ) (lists : List TermList) (k : ℕ) → List PostingAt
held_in bytes lists k = held_postings (get_or lists k no_list).df None (drop (get_or lists k no_list).start bytes)

-- the first m cursors
pub record Heads (bytes : List ℕ) (m : ℕ) (lists : List TermList) (cursors : ℕ → Postings) : Type 0 where
  pub each : (k : ℕ) → k < m → postings_from bytes (cursors k) ≡ held_in bytes lists k

-- ---- the documents found

abbrev pub held_list : (bytes : List ℕ) (lists : List TermList) (k : ℕ) → List Posting
held_list bytes lists k = map posting_of (held_in bytes lists k)

-- names and own positions that fit the numbers and the lists
pub record Fitting (bytes : List ℕ) (s : Names) (own : ℕ → List ℕ → List ℕ) (ns : List (List ℕ)) : Type 0 where
  pub numbered : Numbered s.taken s.slot s.different s.wanted ns
  pub named : 0 < s.taken
  pub positions : (d i : ℕ) → i < s.taken
      → own d (get_or ns i []) ≡ positions_of (held_list bytes s.list (get_or s.slot i 0)) d

-- the documents of list b whose own positions meet the rule, in its order
abbrev pub found_in : (bytes : List ℕ) (s : Names) (b : ℕ) (a : Rule) (own : ℕ → List ℕ → List ℕ) (ns : List (List ℕ)) → List ℕ
found_in bytes s b a own ns = kept (λ d. meets a (own d) ns) (map (λ p. p.doc) (held_list bytes s.list b))

-- for all that fit: a count, and ids from the buffer's front on, as far as it goes
abbrev pub ListsWalked : (bytes : List ℕ) (a : Rule) (s : Names) (before : List ℕ) (r : ℕ) (after : List ℕ) → Type 0
ListsWalked bytes a s before r after =
    (own : ℕ → List ℕ → List ℕ) (ns : List (List ℕ)) → Fitting bytes s own ns
    → FoundIds (found_in bytes s 0 a own ns) before r after

-- for all that fit: the documents of list b that meet the rule, or kind 13
pub record ListsAnswered (b : ℕ) (bytes : List ℕ) (a : Rule) (s : Names) (ids : List ℕ) (r : Answer ℕ) (ids' : List ℕ) : Type 0 where
  pub replies : (own : ℕ → List ℕ → List ℕ) (ns : List (List ℕ)) → Fitting bytes s own ns
      → Replies (answer_of (found_in bytes s b a own ns) (length ids)) ids r ids'

-- ---- names resolved

-- the lists decoded one by one, or known to decode
abbrev pub ListsPassed : (bytes : List ℕ) (at : Layout) (sure : Bool) (lists : List TermList) → Answer (Unit {0}) → Type 0
ListsPassed bytes at sure lists (Err x) = Err x ≡ lists_decoded bytes at lists
ListsPassed bytes at sure lists (Ok tt) = sure ≡ false → (Ok tt) ≡ lists_decoded bytes at lists

-- s is what 1 to 128 names resolve to by a layout that fits
pub record NamedBy (bytes : List ℕ) (at : Layout) (s : Names) : Type 0 where
  pub fits : Fits bytes at
  pub names : List (List ℕ)
  pub resolved : NamesResolved bytes at names s
  pub few : length names ≤ 128
  pub some : 0 < length names

-- the names of a question that is not idle, in an open segment
pub record Askable (bytes : List ℕ) (at : Layout) (a : Rule) (s : Names) : Type 0 where
  pub segment : Segment
  pub is_open : IsOpen bytes at segment
  pub names : List (List ℕ)
  pub resolved : NamesResolved bytes at names s
  pub few : length names ≤ 128
  pub not_idle : idle a (length names) ≡ false

pub record NamesAnswered (bytes : List ℕ) (at : Layout) (sure : Bool) (a : Rule) (s : Names) (ids : List ℕ) (r : Answer ℕ)
    (ids' : List ℕ) : Type 0 where
  pub kept : Kept ids r ids'
  pub plain : (q : Askable bytes at a s) → (sure ≡ true → every_list q.segment ≡ Ok tt)
      → Replies (answer_in q.segment a q.names (length ids)) ids r ids'
