-- The length, and as many bytes.
use Prim.Native.Nat.{◌+◌}
use native.Mathlib.Omega.{arith}
use lib.ListN.{length}
use mathlib.Core.Path.{sym, ◌∙◌}
use borrow.Author.Tests.{le-leb, lt-leb}
use Rattle.std.proofs.lemmas.Grind.{common_steps}
use Rattle.midi_read.specs.Files.{skipped}
use Rattle.midi_read.proofs.Numbers.{Sized, sized}
use Rattle.midi_read.proofs.track.skip.Goals as goal
use Rattle.midi_read.proofs.track.skip.Goals.{In_ok-n}

size : (c : In_ok-n) → Sized c.args.s.now c.args.at 0 4 c.in_ok-n.n
size c = sized 4 0 _ _ _ (sym c.number_at.ensures ∙ c.in_ok-n.ensures.ok_part)

pub returns-in_err-n : goal.returns-in_err-n
unfolding skipped
returns-in_err-n c = grind (arith, common_steps)

pub overflow_sub-s : goal.overflow_sub-s
overflow_sub-s c = omega (arith, (size (goal.at.overflow_sub-s c).In_ok-n).inside)

pub returns-then-s-n : goal.returns-then-s-n
unfolding skipped
returns-then-s-n c =
    rw (
      sym c.number_at.ensures ∙ c.in_ok-n.ensures.ok_part,
      lt-leb (c.in_ok-n.n.next + c.in_ok-n.n.value) (length c.args.s.now)
          (omega (arith, (size (goal.at.returns-then-s-n c).In_ok-n).inside)),
    )

pub returns : goal.returns
unfolding skipped
returns c =
    rw (
      sym c.number_at.ensures ∙ c.in_ok-n.ensures.ok_part,
      le-leb (c.in_ok-n.n.next + c.in_ok-n.n.value) (length c.args.s.now)
          (omega (arith, (size (goal.at.returns c).In_ok-n).inside)),
    )
