-- What the calls with a handle promise, for any bytes and any handle: `kept`, what the call leaves of the lent buffers, always; and
-- `plain`, that a handle which checking answered for these very bytes gives what the plain call gives. A call that lends nothing has
-- nothing to keep. That a call ends and reads inside the slices holds of every proved function.
use Rattle.std.specs.Prelude.{Option, ℕ, ◌≡◌, List}
use Rattle.segment.specs.Results.{Answer}
use Rattle.segment.specs.declared.replies.Totals.{Totals}
use Rattle.calls.specs.Replies.{length_answer, df_answer}
use Rattle.calls.specs.Reads.{document_len, df}
use Rattle.calls.specs.Kept.{Kept, KeptPostings}
use Rattle.handle.specs.declared.handle.Handle.{Handle}
use Rattle.handle.specs.Handles.{HandleOf}
use Rattle.read_terms.specs.Promise.{DocsAnswered}
use Rattle.read_positions.specs.Promise.{PostingsAnswered, PositionsAnswered}

-- ---- nothing is lent

pub record LengthChecked (bytes : List ℕ) (h : Handle) (doc : ℕ) (r : Answer (Option ℕ)) : Type 0 where
  pub plain : HandleOf bytes h → r ≡ length_answer (document_len bytes doc)

pub record DfChecked (bytes : List ℕ) (h : Handle) (name : List ℕ) (r : Answer ℕ) : Type 0 where
  pub plain : HandleOf bytes h → r ≡ df_answer (df bytes name)

-- ---- buffers are lent

pub record DocsChecked (bytes : List ℕ) (h : Handle) (name ids : List ℕ) (r : Answer ℕ) (ids' : List ℕ) : Type 0 where
  pub kept : Kept ids r ids'
  pub plain : HandleOf bytes h → DocsAnswered bytes name ids r ids'

pub record PostingsChecked (bytes : List ℕ) (h : Handle) (name ids counts places : List ℕ) (r : Answer Totals)
    (ids' counts' places' : List ℕ) : Type 0 where
  pub kept : KeptPostings ids counts places r ids' counts' places'
  pub plain : HandleOf bytes h → PostingsAnswered bytes name ids counts places r ids' counts' places'

pub record PositionsChecked (bytes : List ℕ) (h : Handle) (name : List ℕ) (doc : ℕ) (places : List ℕ) (r : Answer ℕ)
    (places' : List ℕ) : Type 0 where
  pub kept : Kept places r places'
  pub plain : HandleOf bytes h → PositionsAnswered bytes name doc places r places'
