-- Each way out is a law of proofs/Gaps.antt for the number that was found.
use mathlib.Core.Path.{sym, ◌∙◌}
use native.Mathlib.Omega.{arith}
use Rattle.read_cursors.proofs.Gaps.{rising_none, rising_first, rising_over, rising_low, rising_next}
use Rattle.read_cursors.proofs.values.read_rising.Goals as goal

pub returns-in_default : goal.returns-in_default
returns-in_default g c = rising_none _ _ _ c.args.list.now c.args.from.at _ (sym c.decode_u32.ensures ∙ c.in_default.is)

pub returns-in_default-previous : goal.returns-in_default-previous
returns-in_default-previous g c =
    rw c.in_default-previous.is
    (rising_first _ _ _ c.args.list.now c.args.from.at (sym c.decode_u32.ensures ∙ c.in-Some.is))

pub returns-then-before-gap : goal.returns-then-before-gap
returns-then-before-gap g c =
    rw c.in-Some-previous.is
    (rising_over _ _ _ c.args.list.now c.args.from.at (sym c.decode_u32.ensures ∙ c.in-Some.is) _ (omega arith))

pub returns-then-value-before : goal.returns-then-value-before
returns-then-value-before g c =
    rw c.in-Some-previous.is
    (rising_low _ _ _ c.args.list.now c.args.from.at (sym c.decode_u32.ensures ∙ c.in-Some.is) _ (omega arith) (omega arith))

pub returns : goal.returns
returns g c =
    rw c.in-Some-previous.is
    (rising_next _ _ _ c.args.list.now c.args.from.at (sym c.decode_u32.ensures ∙ c.in-Some.is) _ (omega arith) (omega arith))
