use mathlib.Core.Path.{◌≡◌, ap}
use Prim.Native.Nat.{◌-◌, ◌≤◌}
use native.Mathlib.Omega.{arith}
use lib.ListN.{length}
use Rattle.common.proofs.Bytes.{each_below}
use Rattle.show_listing.proofs.Texts.{entry_at_most, entry_lines_less, entry_lines_end}
use Rattle.show_listing.proofs.list.entries_len.Goals as goal
use Rattle.show_listing.proofs.list.entries_len.Goals.{After-entry_len-size}

-- One line has at most 75 bytes
line_most : (c : After-entry_len-size) → c.entry_len-size.result ≤ 75
line_most c =
    let l = c.loop-i in
    let dir = c.args.dir.now in
    let b = each_below dir (λ i. omega (arith, c.type_inv.dir i)) in
    omega (arith, c.entry_len-size.ensures, entry_at_most dir c.args.names.now b l.i)

pub loop-i-init : goal.loop-i-init
loop-i-init c =
    let terms = c.args.terms in
    let all : terms - 0 ≡ terms = omega arith in
    (omega arith, rw all (omega arith))

pub entry_len-size-requires : goal.entry_len-size-requires
entry_len-size-requires c = c.requires.0 c.loop-i.i (omega arith)

pub overflow_add-size : goal.overflow_add-size
overflow_add-size c = omega (arith, line_most c)

pub loop-i-preserved : goal.loop-i-preserved
loop-i-preserved c =
    let l = c.loop-i in
    let a = c.args in
    let next = entry_lines_less a.dir.now a.names.now a.terms l.i (omega arith) in
    (omega (arith, line_most c), omega (arith, l.invariant.1, c.entry_len-size.ensures, next))

pub returns : goal.returns
returns c =
    let l = c.loop-i in
    let a = c.args in
    omega (arith, l.invariant.1, ap length (entry_lines_end a.dir.now a.names.now a.terms l.i (omega arith)))
