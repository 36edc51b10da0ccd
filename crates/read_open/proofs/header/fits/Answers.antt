use mathlib.Core.Path.{sym}
use native.Mathlib.Omega.{arith}
use Rattle.common.proofs.Loops.{true_false}
use Rattle.read_open.proofs.header.fits.Goals as goal

pub returns-then-at-lt-HEADER_SIZE : goal.returns-then-at-lt-HEADER_SIZE
returns-then-at-lt-HEADER_SIZE c = (λ e. true_false (sym e), λ f. absurd (omega arith))

pub returns-then-at : goal.returns-then-at
returns-then-at c = (λ e. true_false (sym e), λ f. absurd (omega arith))

pub returns-then-at-2 : goal.returns-then-at-2
returns-then-at-2 c = (λ e. true_false (sym e), λ f. absurd (omega arith))

pub returns-then-bytes-at : goal.returns-then-bytes-at
returns-then-bytes-at c = (λ e. true_false (sym e), λ f. absurd (omega arith))

pub returns-then-at-long : goal.returns-then-at-long
returns-then-at-long c = (λ e. true_false (sym e), λ f. absurd (omega arith))
