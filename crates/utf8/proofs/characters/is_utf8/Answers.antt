use mathlib.Core.Path.{sym, ◌∙◌}
use native.Mathlib.Omega.{arith}
use Rattle.utf8.specs.Utf8.{utf8}
use Rattle.utf8.proofs.Ranges.{char_le, no_char, next_char, no_more}
use Rattle.utf8.proofs.characters.is_utf8.Goals as goal

pub returns-then-k-eq0 : goal.returns-then-k-eq0
unfolding utf8
returns-then-k-eq0 c =
    sym (no_char c.args.s.now c.loop-at.at c.char_len-k.ensures (omega arith) c.if-k-eq0.true) ∙ c.loop-at.invariant.1

pub overflow_add-at : goal.overflow_add-at
overflow_add-at c = omega (arith, char_le c.args.s.now c.loop-at.at c.char_len-k.ensures (omega arith))

pub loop-at-smaller : goal.loop-at-smaller
loop-at-smaller c = omega (arith, char_le c.args.s.now c.loop-at.at c.char_len-k.ensures (omega arith))

pub loop-at-preserved : goal.loop-at-preserved
loop-at-preserved c =
    let s = c.args.s.now in
    let at = c.loop-at.at in
    let is = c.char_len-k.ensures in
    (char_le s at is (omega arith), sym (next_char s at is (omega arith)) ∙ c.loop-at.invariant.1)

pub returns : goal.returns
unfolding utf8
returns c = sym (no_more c.args.s.now c.loop-at.at (omega arith)) ∙ c.loop-at.invariant.1
