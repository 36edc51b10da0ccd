use Rattle.std.specs.Prelude.{Some}
use mathlib.Core.Path.{◌≡◌, ap}
use Prim.Native.Nat.{ℕ, ◌+◌}
use native.Mathlib.Omega.{arith}
use lib.ListN.{length, get_or, length-append}
use Rattle.leb128.specs.Leb128.{encoded}
use Rattle.calls.proofs.Lengths.{flat_metadata_size}
use Rattle.write_lists.proofs.Left.{metadata_left, metadata_next, metadata_end}
use Rattle.write_segment.proofs.sizes.metadata_len.Goals as goal
use Rattle.write_segment.proofs.sizes.metadata_len.Goals.{After-encoded_len-in-loop-i}

pub loop-i-init : goal.loop-i-init
loop-i-init c =
    let a = c.args in
    let ids = a.ids.now in
    let lengths = a.lengths.now in
    (omega arith, flat_metadata_size ids lengths)

-- what a turn takes off
turn : (c : After-encoded_len-in-loop-i)
    → let l = c.loop-i in
    let a = c.args in
    let ids = a.ids.now in
    let lengths = a.lengths.now in
    length (metadata_left ids lengths l.previous l.i)
    ≡ c.encoded_len.result + c.encoded_len-in-loop-i.result + length (metadata_left ids lengths (Some (get_or ids l.i 0)) (l.i + 1))
turn c =
    let l = c.loop-i in
    let a = c.args in
    omega (
      arith,
      simp length-append at (ap length (metadata_next a.ids.now a.lengths.now l.previous l.i (omega arith) (omega arith))),
      ap (λ (x : ℕ). length (encoded x)) c.gap_from.ensures,
    )

pub overflow_add-size : goal.overflow_add-size
overflow_add-size c = omega (arith, turn c)

pub overflow_add-size-in-loop-i : goal.overflow_add-size-in-loop-i
overflow_add-size-in-loop-i c = omega (arith, turn c)

pub loop-i-preserved : goal.loop-i-preserved
loop-i-preserved c = (omega (arith, turn c), c.loop-i.invariant.1)

pub returns : goal.returns
returns c =
    let l = c.loop-i in
    let a = c.args in
    omega (arith, ap length (metadata_end a.ids.now a.lengths.now l.previous l.i (omega arith)))
