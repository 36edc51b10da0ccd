-- The positions of a term are at most what numbers of 32 bits add up to.
use Prim.Native.Nat.{◌+◌}
use native.Mathlib.Omega.{arith}
use Rattle.calls.proofs.Parts.{total_part, total_below}
use Rattle.write_check_all.proofs.walk.Walk.next.Goals as goal

pub overflow_add-result-2 : goal.overflow_add-result-2
overflow_add-result-2 c =
    let a = c.args in
    omega (
      arith,
      c.total_of-past.ensures,
      total_part a.self.posting (a.self.posting + c.long.result) a.position_counts.now,
      total_below a.position_counts.now (λ i. omega (arith, c.type_inv.position_counts i)),
    )
