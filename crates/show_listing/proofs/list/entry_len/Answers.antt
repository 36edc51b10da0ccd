use native.Mathlib.Omega.{arith}
use Rattle.common.proofs.Bytes.{each_below}
use Rattle.show_listing.proofs.Texts.{name_inside, name_len_most, entry_size_is}
use Rattle.show_listing.proofs.list.entry_len.Goals as goal

pub slice_bounds-name_len-count : goal.slice_bounds-name_len-count
slice_bounds-name_len-count c = (name_inside _ _ _ c.entry_name-name.ensures c.requires).0

pub slice_bounds-name_len-start : goal.slice_bounds-name_len-start
slice_bounds-name_len-start c = slice_bounds-name_len-count c

pub slice_bounds-name_len-end : goal.slice_bounds-name_len-end
slice_bounds-name_len-end c = (name_inside _ _ _ c.entry_name-name.ensures c.requires).1

pub overflow_add-result : goal.overflow_add-result
overflow_add-result c = omega (arith, name_len_most _ c.name_len.ensures)

pub returns : goal.returns
returns c =
    let a = c.args in
    let dir = a.dir.now in
    let b = each_below dir (λ i. omega (arith, c.type_inv.dir i)) in
    entry_size_is dir a.names.now a.i c.entry_name-name.ensures b
    c.name_len.ensures
