-- Each way out is a law of proofs/DocumentReads.antt for the two numbers that were found.
use Rattle.std.specs.Prelude.{Some}
use mathlib.Core.Path.{◌≡◌, sym, ◌∙◌}
use native.Mathlib.Omega.{arith}
use Rattle.leb128.specs.Promise.{decoded_at}
use Rattle.read_cursors.proofs.DocumentReads.{document_none, document_half, document_first, document_over, document_low, document_next}
use Rattle.read_cursors.proofs.documents.read_document_each.Goals as goal
use Rattle.read_cursors.proofs.documents.read_document_each.Goals.{In-Some, In-Some-decode_u32}

-- the gap and the length that the code found
gap : (c : In-Some) → decoded_at c.args.meta.now c.args.from.at ≡ Some c.in-Some.gap
gap c = sym c.decode_u32.ensures ∙ c.in-Some.is

len : (c : In-Some-decode_u32) → decoded_at c.args.meta.now c.in-Some.gap.next.at ≡ Some c.in-Some-decode_u32.len
len c = sym c.decode_u32-2.ensures ∙ c.in-Some-decode_u32.is

pub returns-in_default : goal.returns-in_default
returns-in_default c = document_none _ c.args.meta.now c.args.from.at _ (sym c.decode_u32.ensures ∙ c.in_default.is)

pub returns-in_default-decode_u32 : goal.returns-in_default-decode_u32
returns-in_default-decode_u32 c =
    document_half _ c.args.meta.now c.args.from.at (gap (goal.at.returns-in_default-decode_u32 c).In-Some) _
    (sym c.decode_u32-2.ensures ∙ c.in_default-decode_u32.is)

pub returns-in_default-previous : goal.returns-in_default-previous
returns-in_default-previous c =
    rw c.in_default-previous.is
    (document_first _ c.args.meta.now c.args.from.at (gap (goal.at.returns-in_default-previous c).In-Some)
    (len (goal.at.returns-in_default-previous c).In-Some-decode_u32))

pub returns-then-before-gap : goal.returns-then-before-gap
returns-then-before-gap c =
    rw c.in-Some-previous.is
    (document_over _ c.args.meta.now c.args.from.at (gap (goal.at.returns-then-before-gap c).In-Some)
    (len (goal.at.returns-then-before-gap c).In-Some-decode_u32) _ (omega arith))

pub returns-then-id-before : goal.returns-then-id-before
returns-then-id-before c =
    rw c.in-Some-previous.is
    (document_low _ c.args.meta.now c.args.from.at (gap (goal.at.returns-then-id-before c).In-Some)
    (len (goal.at.returns-then-id-before c).In-Some-decode_u32) _ (omega arith) (omega arith))

pub returns : goal.returns
returns c =
    rw c.in-Some-previous.is
    (document_next _ c.args.meta.now c.args.from.at (gap (goal.at.returns c).In-Some)
    (len (goal.at.returns c).In-Some-decode_u32) _ (omega arith) (omega arith))
