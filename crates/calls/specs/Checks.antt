-- The writer's checks in document 01's order: kinds 12, 11; document order; per term UTF-8, empty, order, no postings; per posting
-- unknown document, underflow, order, no positions; per position underflow, order, length.
use Rattle.std.specs.Prelude.{None, Ok, Option, Some, ℕ, Bool, true, ◌&&◌, List, [], ◌∷◌, ltb, leb, eqb, length}
use Rattle.utf8.specs.Utf8.{utf8}
use Rattle.segment.specs.Refusals.{too_large, list_shape, invalid_utf8, invalid_layout, empty_term, empty_term_posting_list}
use Rattle.segment.specs.Refusals.{empty_position_list, document_lengths_not_increasing, terms_not_increasing, posting_id_gap_underflow}
use Rattle.segment.specs.Refusals.{posting_ids_not_increasing, position_gap_underflow, positions_not_increasing}
use Rattle.segment.specs.Refusals.{written_position_exceeds_length}
use Rattle.segment.specs.Results.{Answer, ◌>>=◌, check}
use Rattle.segment.specs.Records.{Document, Posting, Term, rises, Given}
use Rattle.segment.specs.Metadata.{length_of}
use Rattle.segment.specs.Directory.{follows}
use Rattle.segment.specs.Postings.{known}
use Rattle.segment.specs.Texts.{ends_fit}
use Rattle.calls.specs.Given.{Lists, given}
use Rattle.common.specs.Lists.{total}

-- 12: a list or text handed in has over 16,777,216 elements
unfoldable pub small : Lists → Bool
small l =
    leb (length l.ids) 16777216
    && leb (length l.lengths) 16777216
    && leb (length l.text) 16777216
    && leb (length l.ends) 16777216
    && leb (length l.posting_counts) 16777216
    && leb (length l.posting_ids) 16777216
    && leb (length l.position_counts) 16777216
    && leb (length l.positions) 16777216

-- 11: lists that run side by side have one length, the text has its shape, and counts add up to the length of the next list
unfoldable pub shaped : Lists → Bool
shaped l =
    eqb (length l.ids) (length l.lengths)
    && ends_fit 0 l.ends (length l.text)
    && eqb (length l.posting_counts) (length l.ends)
    && eqb (total l.posting_counts) (length l.posting_ids)
    && eqb (length l.position_counts) (length l.posting_ids)
    && eqb (total l.position_counts) (length l.positions)

-- not below the one before
abbrev pub reaches : Option ℕ → ℕ → Bool
reaches None v = true
reaches (Some p) v = leb p v

unfoldable pub check_documents : (previous : Option ℕ) → List Document → Answer (Unit {0})
check_documents previous [] = Ok tt
check_documents previous (d ∷ ds) = do
  _ ← check (rises previous d.id) (invalid_layout document_lengths_not_increasing)
  check_documents (Some d.id) ds

unfoldable pub position_checks : (len : ℕ) (previous : Option ℕ) (p : ℕ) → Answer (Unit {0})
position_checks len previous p = do
  _ ← check (reaches previous p) (invalid_layout position_gap_underflow)
  _ ← check (rises previous p) (invalid_layout positions_not_increasing)
  check (ltb p len) (invalid_layout written_position_exceeds_length)

unfoldable pub check_positions : (len : ℕ) (previous : Option ℕ) → List ℕ → Answer (Unit {0})
check_positions len previous [] = Ok tt
check_positions len previous (p ∷ ps) = do
  _ ← position_checks len previous p
  check_positions len (Some p) ps

unfoldable pub check_posting : (documents : List Document) (previous : Option ℕ) → Posting → Answer (Unit {0})
check_posting documents previous p = do
  len ← known (length_of documents p.doc)
  _ ← check (reaches previous p.doc) (invalid_layout posting_id_gap_underflow)
  _ ← check (rises previous p.doc) (invalid_layout posting_ids_not_increasing)
  _ ← check (ltb 0 (length p.positions)) (invalid_layout empty_position_list)
  check_positions len None p.positions

unfoldable pub check_postings : (documents : List Document) (previous : Option ℕ) → List Posting → Answer (Unit {0})
check_postings documents previous [] = Ok tt
check_postings documents previous (p ∷ ps) = do
  _ ← check_posting documents previous p
  check_postings documents (Some p.doc) ps

unfoldable pub check_name : (previous : Option (List ℕ)) (name : List ℕ) → Answer (Unit {0})
check_name previous name = do
  _ ← check (utf8 name) invalid_utf8
  _ ← check (ltb 0 (length name)) (invalid_layout empty_term)
  check (follows previous name) (invalid_layout terms_not_increasing)

unfoldable pub check_terms : (documents : List Document) (previous : Option (List ℕ)) → List Term → Answer (Unit {0})
check_terms documents previous [] = Ok tt
check_terms documents previous (t ∷ ts) = do
  _ ← check_name previous t.name
  _ ← check (ltb 0 (length t.postings)) (invalid_layout empty_term_posting_list)
  _ ← check_postings documents None t.postings
  check_terms documents (Some t.name) ts

unfoldable pub check_given : Given → Answer (Unit {0})
check_given g = do
  _ ← check_documents None g.documents
  check_terms g.documents None g.terms

unfoldable pub check_lists : Lists → Answer (Unit {0})
check_lists l = do
  _ ← check (small l) too_large
  _ ← check (shaped l) list_shape
  check_given (given l)
