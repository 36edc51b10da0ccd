use mathlib.Core.Path.{refl, ap}
use Prim.Native.Nat.{◌+◌, ◌*◌, ◌≤◌}
use lib.ListN.{length}
use native.Mathlib.Omega.{arith}
use Rattle.segment.specs.Records.{field}
use Rattle.read_open.specs.Steps.{cut}
use Rattle.read_terms.proofs.Finding.{entry_within, list_ends, entry_listed}
use Rattle.read_terms.proofs.find.entry_list.Goals as goal
use Rattle.read_terms.proofs.find.entry_list.Goals.{Start}

-- The entry lies in the directory, and its list in the bytes
within : (c : Start) → c.args.i * 32 + 32 ≤ length (cut c.args.bytes.now c.args.at).directory
within c = entry_within c.requires.fits c.args.i c.requires.below

ends : (c : Start) → let dir = (cut c.args.bytes.now c.args.at).directory in
    c.args.at.lists + field 8 (c.args.i * 32 + 8) dir + field 8 (c.args.i * 32 + 16) dir ≤ length c.args.bytes.now
ends c = list_ends c.requires

pub overflow_mul-offset : goal.overflow_mul-offset
overflow_mul-offset c = omega (arith, within (goal.at.overflow_mul-offset c).Start)

pub overflow_add-offset : goal.overflow_add-offset
overflow_add-offset c = omega (arith, within (goal.at.overflow_add-offset c).Start)

pub read_usize_at-requires : goal.read_usize_at-requires
read_usize_at-requires c = omega (arith, within (goal.at.read_usize_at-requires c).Start)

pub overflow_add-start : goal.overflow_add-start
overflow_add-start c = omega (arith, ends (goal.at.overflow_add-start c).Start, c.read_usize_at.ensures)

pub overflow_add-offset-2 : goal.overflow_add-offset-2
overflow_add-offset-2 c = omega (arith, within (goal.at.overflow_add-offset-2 c).Start)

pub read_usize_at-requires-2 : goal.read_usize_at-requires-2
read_usize_at-requires-2 c = omega (arith, within (goal.at.read_usize_at-requires-2 c).Start)

pub overflow_add-end : goal.overflow_add-end
overflow_add-end c = omega (arith, ends (goal.at.overflow_add-end c).Start, c.read_usize_at.ensures, c.read_usize_at-2.ensures)

pub overflow_add-offset-3 : goal.overflow_add-offset-3
overflow_add-offset-3 c = omega (arith, within (goal.at.overflow_add-offset-3 c).Start)

pub read_u32_at-requires : goal.read_u32_at-requires
read_u32_at-requires c = omega (arith, within (goal.at.read_u32_at-requires c).Start)

pub overflow_add-offset-4 : goal.overflow_add-offset-4
overflow_add-offset-4 c = omega (arith, within (goal.at.overflow_add-offset-4 c).Start)

pub read_u32_at-requires-2 : goal.read_u32_at-requires-2
read_u32_at-requires-2 c = omega (arith, within (goal.at.read_u32_at-requires-2 c).Start)

pub returns : goal.returns
returns c =
    let at = c.args.at.lists in
    entry_listed c.requires _ refl (ap (◌+◌ at) c.read_usize_at.ensures)
    (ap (◌+◌ (at + c.read_usize_at.result)) c.read_usize_at-2.ensures) c.read_u32_at.ensures c.read_u32_at-2.ensures
