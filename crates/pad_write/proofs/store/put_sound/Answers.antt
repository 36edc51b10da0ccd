-- A sound without hits leaves the slice; one with hits leaves its list, its entry and its name.
use mathlib.Core.Path.{sym}
use native.Mathlib.Omega.{arith}
use Rattle.pad_write.proofs.Parts.{ids_size, counts_size, positions_size, side_by_side, positions_enough}
use Rattle.pad_write.proofs.OneSound.{sound_unused, list_room, entry_room, name_room, sound_used}
use Rattle.pad_write.proofs.store.put_sound.Goals as goal

pub returns-then-n-eq0 : goal.returns-then-n-eq0
returns-then-n-eq0 c =
    sound_unused _ _ _ _ _ _ _ _ _ _ c.requires c.if-n-eq0.true

pub slice_bounds-put_postings-end : goal.slice_bounds-put_postings-end
slice_bounds-put_postings-end c = sym (ids_size _ _ _ _ c.requires.lists)

pub slice_bounds-put_postings-end-2 : goal.slice_bounds-put_postings-end-2
slice_bounds-put_postings-end-2 c = sym (counts_size _ _ _ _ c.requires.lists)

pub slice_bounds-put_postings-end-3 : goal.slice_bounds-put_postings-end-3
slice_bounds-put_postings-end-3 c = sym (positions_size _ _ _ _ c.requires.lists)

pub put_postings-past_list-requires : goal.put_postings-past_list-requires
put_postings-past_list-requires c = (
  side_by_side _ _ _ _ c.requires.lists,
  positions_enough _ _ _ _ c.requires.lists,
  list_room _ _ _ _ _ _ _ _ _ _ c.requires c.if-n-eq0.false,
)

pub overflow_sub-end : goal.overflow_sub-end
overflow_sub-end c = omega (arith, c.requires.name_order)

pub overflow_cast-n : goal.overflow_cast-n
overflow_cast-n c = omega (arith, c.requires.lists.few_postings)

pub put_entry-past-requires : goal.put_entry-past-requires
put_entry-past-requires c =
    entry_room _ _ _ _ _ _ _ _ _ _ c.requires c.if-n-eq0.false c.put_postings-past_list.ensures

pub overflow_add-names_at : goal.overflow_add-names_at
overflow_add-names_at c =
    let r = c.requires.used (omega (arith, c.if-n-eq0.false)) in
    omega (arith, r.name, r.begun, r.room)

pub slice_bounds-put_bytes-count : goal.slice_bounds-put_bytes-count
slice_bounds-put_bytes-count c = omega (arith, c.requires.name_order)

pub slice_bounds-put_bytes-start : goal.slice_bounds-put_bytes-start
slice_bounds-put_bytes-start c = omega (arith, c.requires.name_order)

pub slice_bounds-put_bytes-end : goal.slice_bounds-put_bytes-end
slice_bounds-put_bytes-end c = omega (arith, c.requires.name_inside)

pub put_bytes-requires : goal.put_bytes-requires
put_bytes-requires c =
    name_room _ _ _ _ _ _ _ _ _ _ c.requires c.if-n-eq0.false c.put_postings-past_list.ensures c.put_entry-past.ensures

pub overflow_sub-result : goal.overflow_sub-result
overflow_sub-result c = omega (arith, c.requires.name_order)

pub overflow_add-result : goal.overflow_add-result
overflow_add-result c =
    let r = c.requires.used (omega (arith, c.if-n-eq0.false)) in
    omega (arith, r.small_name)

pub returns : goal.returns
returns c =
    sound_used _ _ _ _ _ _ _ _ _ _ c.requires c.if-n-eq0.false c.put_postings-past_list.ensures c.put_entry-past.ensures
    c.put_bytes.ensures
