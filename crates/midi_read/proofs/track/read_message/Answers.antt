-- Code and definition take the same steps.
use native.Mathlib.Omega.{arith}
use mathlib.Core.Path.{sym}
use Rattle.std.proofs.lemmas.Grind.{common_steps}
use Rattle.midi_read.specs.Files.{message}
use Rattle.midi_read.proofs.track.read_message.Goals as goal

pub returns-in_err-first : goal.returns-in_err-first
unfolding message
returns-in_err-first c = grind (arith, common_steps)

pub returns-then-has_one_data_byte : goal.returns-then-has_one_data_byte
unfolding message
returns-then-has_one_data_byte c = rw (sym c.in_ok-first.ensures, sym c.if-has_one_data_byte.ensures)

pub returns-in_err-second : goal.returns-in_err-second
unfolding message
returns-in_err-second c = grind (arith, common_steps)

pub returns-then-is_a_hit : goal.returns-then-is_a_hit
unfolding message
returns-then-is_a_hit c =
    rw (
      sym c.in_ok-first.ensures,
      sym c.if-has_one_data_byte.ensures,
      sym c.in_ok-second.ensures,
      sym c.if-is_a_hit.ensures,
    )

pub returns : goal.returns
unfolding message
returns c =
    rw (
      sym c.in_ok-first.ensures,
      sym c.if-has_one_data_byte.ensures,
      sym c.in_ok-second.ensures,
      sym c.if-is_a_hit.ensures,
    )
