-- The fronts are there, and the call's promise is write_then_ask's of them.
use mathlib.Core.Path.{sym}
use native.Mathlib.Omega.{arith}
use lib.Seq.{length-take-le}
use Rattle.claim_import.proofs.ask.ask_fronts.Goals as goal

pub slice_bounds-write_then_ask-end : goal.slice_bounds-write_then_ask-end
slice_bounds-write_then_ask-end c = sym (length-take-le _ _ (omega arith))

pub slice_bounds-write_then_ask-end-2 : goal.slice_bounds-write_then_ask-end-2
slice_bounds-write_then_ask-end-2 c = sym (length-take-le _ _ (omega arith))

pub slice_bounds-write_then_ask-end-3 : goal.slice_bounds-write_then_ask-end-3
slice_bounds-write_then_ask-end-3 c = sym (length-take-le _ _ (omega arith))

pub slice_bounds-write_then_ask-end-4 : goal.slice_bounds-write_then_ask-end-4
slice_bounds-write_then_ask-end-4 c = sym (length-take-le _ _ (omega arith))

pub slice_bounds-write_then_ask-end-5 : goal.slice_bounds-write_then_ask-end-5
slice_bounds-write_then_ask-end-5 c = sym (length-take-le _ _ (omega arith))

pub slice_bounds-write_then_ask-end-6 : goal.slice_bounds-write_then_ask-end-6
slice_bounds-write_then_ask-end-6 c = sym (length-take-le _ _ (omega arith))

pub slice_bounds-write_then_ask-end-7 : goal.slice_bounds-write_then_ask-end-7
slice_bounds-write_then_ask-end-7 c = sym (length-take-le _ _ (omega arith))

pub slice_bounds-write_then_ask-end-8 : goal.slice_bounds-write_then_ask-end-8
slice_bounds-write_then_ask-end-8 c = sym (length-take-le _ _ (omega arith))

pub returns : goal.returns
returns c = c.write_then_ask.ensures
