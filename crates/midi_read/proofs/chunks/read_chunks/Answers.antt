use mathlib.Core.Path.{sym}
use Rattle.std.proofs.lemmas.Bool.Decides.{nat_tests}
use Rattle.midi_read.specs.Files.{chunks}
use native.Mathlib.Omega.{arith}
use Rattle.std.proofs.lemmas.Grind.{common_steps}
use Rattle.midi_read.proofs.Chunked.{chunks_large, chunks_fit}
use Rattle.midi_read.proofs.chunks.read_chunks.Goals as goal

pub returns-then-s-gt-LIMIT : goal.returns-then-s-gt-LIMIT
returns-then-s-gt-LIMIT c = record { answer = λ steps. chunks_large steps _ c.args.s.now c.if-s-gt-LIMIT.true }

pub returns-in_err-ticks : goal.returns-in_err-ticks
unfolding chunks
returns-in_err-ticks c = record { answer = λ steps. grind (arith, common_steps, nat_tests) }

pub returns-in_err-check_heading : goal.returns-in_err-check_heading
unfolding chunks
returns-in_err-check_heading c = record { answer = λ steps. grind (arith, common_steps) }

pub returns : goal.returns
returns c =
    record { answer = λ steps. chunks_fit steps _ c.args.s.now c.if-s-gt-LIMIT.false (sym c.in_ok-ticks.ensures) (sym c.in_ok-check_heading.ensures) }
