-- What an answer by a layout is, whatever the layout.
use Rattle.std.specs.Prelude.{Ok, ℕ, ◌≡◌, Bool, true, List, length}
use Rattle.segment.specs.Results.{Answer, ◌>>=◌, roomy}
use Rattle.segment.specs.Records.{Segment}
use Rattle.rules.specs.declared.rule.Rule.{Rule}
use Rattle.calls.specs.Replies.{count_of, filled}
use Rattle.calls.specs.Questions.{answers}
use Rattle.calls.specs.Whole.{every_list}
use Rattle.calls.specs.Kept.{Kept}
use Rattle.read_open.specs.declared.header.Layout.{Layout}
use Rattle.read_open.specs.Opened.{IsOpen}

-- kind 13, or the ids
abbrev pub answer_of : (found : List ℕ) (room : ℕ) → Answer (List ℕ)
answer_of found room = do
  _ ← roomy 1 (length found) room
  Ok found

-- a question after its checks and the opening: the answer, and kind 13
abbrev pub answer_in : Segment → Rule → List (List ℕ) → (room : ℕ) → Answer (List ℕ)
answer_in s a ns room = do
  found ← answers s a ns
  answer_of found room

-- a reply, and the buffer afterwards, made of what the definitions answer
abbrev pub Replies : (answer : Answer (List ℕ)) (ids : List ℕ) (r : Answer ℕ) (ids' : List ℕ) → Type 0
Replies answer ids r ids' = (r ≡ count_of answer) × (ids' ≡ filled (λ xs. xs) answer ids)

-- the buffer is kept always; and where the layout is that of an open segment, and every list decodes if that is said to be known, reply
-- and buffer are the question's
pub record LayoutAnswered (bytes : List ℕ) (l : Layout) (sure : Bool) (a : Rule) (ns : List (List ℕ)) (ids : List ℕ) (r : Answer ℕ)
    (ids' : List ℕ) : Type 0 where
  pub kept : Kept ids r ids'
  pub plain : (s : Segment) → IsOpen bytes l s → (sure ≡ true → every_list s ≡ Ok tt) → Replies (answer_in s a ns (length ids)) ids r ids'
