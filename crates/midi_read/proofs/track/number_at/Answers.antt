-- Each byte with the high bit leaves the rest of the number to read.
use mathlib.Core.Path.{◌≡◌, sym, ap, ◌∙◌}
use Prim.Native.Nat.{◌+◌, ◌-◌, ◌%◌}
use native.Mathlib.Nat.{add-zero}
use native.Mathlib.Omega.{arith}
use Rattle.midi_read.specs.Files.{number_from}
use Rattle.midi_read.proofs.Numbers.{turn_out, turn_last, turn_more, small_more}
use Rattle.midi_read.proofs.track.number_at.Goals as goal

pub loop-i-init : goal.loop-i-init
loop-i-init c = (ap (number_from 4 0 c.args.s.now) (sym (add-zero c.args.at)), omega arith, omega arith)

pub returns-in_err-get : goal.returns-in_err-get
returns-in_err-get c =
    let l = c.loop-i in
    rw c.from_residual.ensures (sym (turn_out c.args.s.now c.args.at l.i l.value l.invariant.0 (omega arith) c.in_err-get.ensures.lookup.3))

pub overflow_mul-value : goal.overflow_mul-value
overflow_mul-value c = let s = small_more c.loop-i.i c.loop-i.value 0 (omega arith) c.loop-i.invariant.1 (omega arith) in omega arith

pub overflow_add-value : goal.overflow_add-value
overflow_add-value c =
    let s = small_more c.loop-i.i c.loop-i.value (c.from-b.result % 128) (omega arith) c.loop-i.invariant.1 (omega arith) in omega arith

pub returns-then-b-lt128 : goal.returns-then-b-lt128
returns-then-b-lt128 c =
    let l = c.loop-i in
    sym (turn_last c.args.s.now c.args.at l.i l.value l.invariant.0 (omega arith)
    c.in_ok-get.ensures.lookup.3.0 (c.from-b.ensures ∙ c.in_ok-get.ensures.lookup.3.1 0) c.if-b-lt128.true)

pub loop-i-preserved : goal.loop-i-preserved
loop-i-preserved c =
    let l = c.loop-i in (
      turn_more c.args.s.now c.args.at l.i l.value l.invariant.0 (omega arith)
          c.in_ok-get.ensures.lookup.3.0 (c.from-b.ensures ∙ c.in_ok-get.ensures.lookup.3.1 0) c.if-b-lt128.false,
      (small_more l.i l.value (c.from-b.result % 128) (omega arith) l.invariant.1 (omega arith)).1,
      omega (arith, c.in_ok-get.ensures.lookup.3.0),
    )

pub returns : goal.returns
unfolding number_from
returns c =
    let l = c.loop-i in
    let none : 4 - l.i ≡ 0 = omega arith in
    sym (l.invariant.0 ∙ ap (λ k. number_from k l.value c.args.s.now (c.args.at + l.i)) none)
