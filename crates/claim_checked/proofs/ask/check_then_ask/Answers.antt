-- The handle is what checking answered for the bytes that are asked.
use mathlib.Core.Logic.{inl}
use Rattle.claim_checked.proofs.ask.check_then_ask.Goals as goal

pub returns : goal.returns
returns c = c.ask_with.ensures (inl c.check-h.ensures)
