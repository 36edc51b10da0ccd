use mathlib.Core.Path.{◌≡◌}
use Prim.Native.Nat.{ℕ, ◌+◌, ◌-◌}
use native.Mathlib.Omega.{arith}
use lib.ListN.{length, drop, take, length-drop, length-replicate}
use lib.Seq.{length-take-le}
use Rattle.show_columns.proofs.Names.{part_stored}
use Rattle.show_columns.proofs.put.put_spaces.Goals as goal

pub returns : goal.returns
returns c =
    let a = c.args in
    let size : a.at + a.count - a.at ≡ a.count = omega arith in
    let part = drop a.at a.out.now in
    let long : length (take (a.at + a.count - a.at) part) ≡ a.count =
    rw size (length-take-le a.count part (omega (arith, length-drop a.at a.out.now))) in
    rw (c.fill.ensures.after (λ y e. e), long, size)
    (part_stored (length-replicate {0} {A = ℕ} a.count 32) c.requires)
