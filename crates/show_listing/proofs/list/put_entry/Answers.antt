use mathlib.Core.Path.{◌≡◌, refl}
use mathlib.Core.List.{[]}
use Prim.Native.Nat.{◌+◌, ◌≤◌}
use native.Mathlib.Omega.{arith}
use lib.ListN.{length}
use Rattle.common.proofs.Bytes.{each_below}
use Rattle.common.proofs.Stores.{stored_length}
use Rattle.segment.specs.Records.{between}
use Rattle.read_open.specs.Steps.{entry_at}
use Rattle.calls.specs.Listing.{name_column, entry_line}
use Rattle.show_columns.proofs.Columns.{past_number}
use Rattle.show_listing.proofs.Texts.{name_inside, entry_size_is, entry_stored}
use Rattle.show_listing.proofs.list.put_entry.Goals as goal
use Rattle.show_listing.proofs.list.put_entry.Goals.{After-entry_name-name, After-put_name-past}

pub entry_name-name-requires : goal.entry_name-name-requires
entry_name-name-requires c = c.requires.0.entry

pub slice_bounds-put_name-count : goal.slice_bounds-put_name-count
slice_bounds-put_name-count c = (name_inside _ _ _ c.entry_name-name.ensures c.requires.0).0

pub slice_bounds-put_name-start : goal.slice_bounds-put_name-start
slice_bounds-put_name-start c = slice_bounds-put_name-count c

pub slice_bounds-put_name-end : goal.slice_bounds-put_name-end
slice_bounds-put_name-end c = (name_inside _ _ _ c.entry_name-name.ensures c.requires.0).1

-- The name's column and the eleven bytes behind it are the line
line : (c : After-entry_name-name) → let a = c.args in
    let r = c.entry_name-name.result in
    length (name_column 16 (between r.start r.end a.names.now)) + 11
    ≡ length (entry_line (entry_at a.dir.now a.names.now [] a.i))
line c =
    let a = c.args in
    let dir = a.dir.now in
    let b = each_below dir (λ i. omega (arith, c.type_inv.dir i)) in
    entry_size_is dir a.names.now a.i c.entry_name-name.ensures b refl

pub put_name-past-requires : goal.put_name-past-requires
put_name-past-requires c = omega (arith, c.requires.1, line (goal.at.put_name-past-requires c).After-entry_name-name)

-- What is left of the line's room behind the name
room : (c : After-put_name-past) → let a = c.args in
    let r = c.entry_name-name.result in
    length (name_column 16 (between r.start r.end a.names.now)) + 11 ≡ length (entry_line (entry_at a.dir.now a.names.now [] a.i))
    → c.put_name-past.result + 11 ≤ length a.out.now
room c line = omega (arith, c.requires.1, line, c.put_name-past.ensures.past)

pub put_number-last-requires : goal.put_number-last-requires
put_number-last-requires c =
    let g = goal.at.put_number-last-requires c in
    (omega arith, omega (arith, room g.After-put_name-past (line g.After-entry_name-name), stored_length c.put_name-past.ensures))

pub put_end-requires : goal.put_end-requires
put_end-requires c =
    let g = goal.at.put_end-requires c in
    omega (
      arith,
      room g.After-put_name-past (line g.After-entry_name-name),
      stored_length c.put_name-past.ensures,
      past_number _ c.put_number-last.ensures (omega arith),
      stored_length c.put_number-last.ensures,
    )

pub returns : goal.returns
returns c =
    let a = c.args in
    entry_stored a.dir.now a.names.now a.i c.entry_name-name.ensures c.read_u32_at-df.ensures
    c.put_name-past.ensures c.put_number-last.ensures c.put_end.ensures
