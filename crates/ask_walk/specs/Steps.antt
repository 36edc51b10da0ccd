-- What the walk over the documents computes.
use Rattle.std.specs.Prelude.{None, Option, Some, ℕ, ◌≤◌, ◌<◌, ◌≡◌, Bool, List, [], map, length, drop, get_or}
use Rattle.std.proofs.lemmas.List.Edits.{sets}
use Rattle.rules.specs.declared.rule.Rule.{Rule}
use Rattle.rules.specs.declared.rule.Rule.TheVariants.{Phrase}
use Rattle.rules.specs.Kinds.{meets}
use Rattle.rules.specs.Rules.{starts_count}
use Rattle.read_cursors.specs.declared.positions.Positions.{Positions}
use Rattle.read_cursors.specs.declared.postings.Postings.{Postings}
use Rattle.read_cursors.specs.Held.{held_positions, posting_of}
use Rattle.read_cursors.specs.Steps.{positions_from, postings_from, SoughtPosting}
use Rattle.ask_match.specs.Steps.{Changed}
use Rattle.ask_names.specs.Steps.{Numbered}
use Rattle.segment.specs.Records.{Posting}
use Rattle.segment.specs.declared.ids.DocId.{DocId}
use Rattle.calls.specs.Lookups.{positions_of}
use Rattle.common.specs.Members.{kept}

-- the cursors over lists of a table, by index; past its end there are none
abbrev pub cursors_in : (lists : List Postings) → ℕ → Postings
cursors_in lists k = get_or lists k (record { at = 0; count = 0; remaining = 0; doc = record { 0 = 0 } })

-- the cursor over list k advanced
pub record SoughtList (bytes : List ℕ) (target k : ℕ) (old new : ℕ → Postings) (r : Postings) : Type 0 where
  pub sought : SoughtPosting bytes target (old k) r
  pub stored : Changed k r old new

-- What the rule's code in one document computes: cursors at the document's postings, names by the indices of their terms.

-- the positions of the posting that a cursor is at
abbrev pub positions_under : (bytes : List ℕ) → Postings → List ℕ
positions_under bytes p = held_positions p.count None (drop p.at bytes)

-- n cursors, each at the first position of its term
pub record CursorsOpened (bytes : List ℕ) (n : ℕ) (term : ℕ → ℕ) (at : ℕ → Postings) (r : ℕ → Positions) : Type 0 where
  pub each : (i : ℕ) → i < n → positions_from bytes (r i) ≡ positions_under bytes (at (term i))

-- for all names and own positions that fit the indices and cursors: the answer is whether these meet the rule
abbrev pub DocumentMet : (bytes : List ℕ) (a : Rule) (n : ℕ) (slot : List ℕ) (m : ℕ) (wanted : List ℕ) (at : ℕ → Postings) (r : Bool)
    → Type 0
DocumentMet bytes a n slot m wanted at r =
    (own : List ℕ → List ℕ) (ns : List (List ℕ)) → Numbered n slot m wanted ns → 0 < n
    → ((i : ℕ) → i < n → own (get_or ns i []) ≡ positions_under bytes (at (get_or slot i 0)))
    → r ≡ meets a own ns

-- for all names and own positions that fit the indices and cursors: the answer is the number of the phrase's starts
abbrev pub DocumentCounted : (bytes : List ℕ) (n : ℕ) (slot : List ℕ) (at : ℕ → Postings) (r : ℕ) → Type 0
DocumentCounted bytes n slot at r =
    (own : List ℕ → List ℕ) (ns : List (List ℕ)) → length ns ≡ n
    → ((i : ℕ) → i < n → own (get_or ns i []) ≡ positions_under bytes (at (get_or slot i 0)))
    → r ≡ starts_count own ns

-- What the walk over the documents finds.

-- the postings of term k
abbrev pub list_of : (bytes : List ℕ) (heads : ℕ → Postings) (k : ℕ) → List Posting
list_of bytes heads k = map posting_of (postings_from bytes (heads k))

-- one of the m lists has no posting of the document
pub record Lacked (bytes : List ℕ) (m : ℕ) (heads : ℕ → Postings) (d : ℕ) : Type 0 where
  pub list : ℕ
  pub among : list < m
  pub none : positions_of (list_of bytes heads list) d ≡ []

-- the cursors moved on to a document not below from; of each one passed some list has no position
pub record LeaptTo (bytes : List ℕ) (m from : ℕ) (old new : ℕ → Postings) (d : ℕ) : Type 0 where
  pub reached : from ≤ d
  pub skipped : (e : ℕ) → from ≤ e → e < d → Lacked bytes m old e
  pub here : (j : ℕ) → j < m → positions_of (list_of bytes old j) d ≡ positions_under bytes (new j)
  pub same : (j e : ℕ) → d ≤ e → positions_of (list_of bytes new j) e ≡ positions_of (list_of bytes old j) e

-- that document, or that there is none
abbrev pub Leapt : (bytes : List ℕ) (m from : ℕ) (old new : ℕ → Postings) (r : Option DocId) → Type 0
Leapt bytes m from old new (Some d) = LeaptTo bytes m from old new d.0
Leapt bytes m from old new None = (e : ℕ) → from ≤ e → Lacked bytes m old e

-- a count, and ids from a buffer's front on, as far as it goes
pub record FoundIds (found before : List ℕ) (r : ℕ) (after : List ℕ) : Type 0 where
  pub count : r ≡ length found
  pub left : after ≡ sets before 0 found

-- for all names and own positions that fit the lists: the documents of the first list whose own positions meet the rule, in its order
abbrev pub DocumentsFound : (bytes : List ℕ) (a : Rule) (n : ℕ) (slot : List ℕ) (m : ℕ) (wanted : List ℕ) (heads : ℕ → Postings)
    (before : List ℕ) (r : ℕ) (after : List ℕ) → Type 0
DocumentsFound bytes a n slot m wanted heads before r after =
    (own : ℕ → List ℕ → List ℕ) (ns : List (List ℕ)) → Numbered n slot m wanted ns → 0 < n
    → ((d i : ℕ) → i < n → own d (get_or ns i []) ≡ positions_of (list_of bytes heads (get_or slot i 0)) d)
    → FoundIds (kept (λ d. meets a (own d) ns) (map (λ p. p.doc) (list_of bytes heads 0))) before r after

-- for all names and own positions that fit the lists: the documents of the first list whose own positions meet the phrase, in its order,
-- and beside each the number of the phrase's starts
pub record FoundCounted (found starts ids counts : List ℕ) (r : ℕ) (ids' counts' : List ℕ) : Type 0 where
  pub in_ids : FoundIds found ids r ids'
  pub in_counts : counts' ≡ sets counts 0 starts

abbrev pub DocumentsCounted : (bytes : List ℕ) (n : ℕ) (slot : List ℕ) (m : ℕ) (heads : ℕ → Postings) (ids counts : List ℕ) (r : ℕ)
    (ids' counts' : List ℕ) → Type 0
DocumentsCounted bytes n slot m heads ids counts r ids' counts' =
    (wanted : List ℕ) (own : ℕ → List ℕ → List ℕ) (ns : List (List ℕ)) → Numbered n slot m wanted ns
    → ((d i : ℕ) → i < n → own d (get_or ns i []) ≡ positions_of (list_of bytes heads (get_or slot i 0)) d)
    → let found = kept (λ d. meets Phrase (own d) ns) (map (λ p. p.doc) (list_of bytes heads 0)) in
    FoundCounted found (map (λ d. starts_count (own d) ns) found) ids counts r ids' counts'
