use Rattle.std.proofs.lemmas.Result.{err_from_is_err_and}
use mathlib.Core.Path.{sym, ◌∙◌}
use native.Mathlib.Omega.{arith}
use Rattle.handle.proofs.Lists.{lists_start, lists_end}
use Rattle.handle.proofs.checking.decode_all.Goals as goal

pub loop-from-init : goal.loop-from-init
loop-from-init c = (omega arith, λ s is. lists_start _ _ is)

pub loop-from-preserved : goal.loop-from-preserved
loop-from-preserved c = (
  omega (arith, c.batch_size-m.ensures.within),
  λ s is. sym ((rw c.in_ok-check_batch.was at c.check_batch.ensures) s is) ∙ c.loop-from.invariant.1 s is,
)

pub returns-in_err-check_batch : goal.returns-in_err-check_batch
returns-in_err-check_batch c =
    let p = err_from_is_err_and c.from_residual.result c.from_residual.ensures.1 in
    rw (p.1, p.2) (λ s is. (rw c.in_err-check_batch.was at c.check_batch.ensures) s is ∙ c.loop-from.invariant.1 s is)

pub returns : goal.returns
returns c =
    λ s is.
    lists_end _ _ is c.loop-from.from (omega (arith, c.loop-from-test.false, c.long-terms.ensures)) ∙ c.loop-from.invariant.1 s is
