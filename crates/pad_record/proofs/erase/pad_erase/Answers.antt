-- Each refusal in its place; else the words behind the bar close the gap.
use Rattle.std.specs.Prelude.{Ok}
use mathlib.Core.Path.{◌≡◌, sym, ◌∙◌}
use mathlib.Core.Bool.{true}
use lib.ListN.{length-set}
use Prim.Native.Nat.{◌+◌, ◌*◌}
use Rattle.std.proofs.Common.{rules}
use native.Mathlib.Omega.{arith}
use Rattle.pad_words.specs.Words.{held}
use Rattle.pad_words.specs.Whole.{whole}
use Rattle.pad_words.specs.Steps.{place_from}
use Rattle.pad_words.proofs.Wholes.{inside}
use Rattle.segment.specs.Records.{between}
use Rattle.pad_record.specs.Steps.{Put}
use Rattle.pad_record.proofs.Moving.{copied}
use Rattle.pad_record.proofs.Erasing.{Erasable, erasable, erase_stores, erase_fine, erase_broken, erase_unknown}
use Rattle.pad_record.proofs.Promised.{not_erased, was_erased}
use Rattle.pad_record.proofs.erase.pad_erase.Goals as goal
use Rattle.pad_record.proofs.erase.pad_erase.Goals.{Else-not-is_whole, In-Ok}

is_one : (c : Else-not-is_whole) → whole c.args.pad.now ≡ true
is_one c = sym c.is_whole.ensures ∙ c.if-not-is_whole.false

begins : (c : In-Ok) → place_from 2 (held c.args.pad.now) c.args.id ≡ Ok (c.in-Ok.at)
begins c = sym c.place_of.ensures ∙ c.in-Ok.is

fit : (c : In-Ok) → Erasable c.args.pad.now c.args.id (sym c.is_whole.ensures ∙ c.if-not-is_whole.false) (begins c)
fit c = erasable c.args.pad.now c.args.id (sym c.is_whole.ensures ∙ c.if-not-is_whole.false) (begins c)

pub returns-then-not-is_whole : goal.returns-then-not-is_whole
returns-then-not-is_whole c =
    not_erased _ _ (erase_broken _ _ (sym c.is_whole.ensures ∙ c.if-not-is_whole.true))

pub place_of-requires : goal.place_of-requires
place_of-requires c = inside _ (is_one c)

pub returns-in_default : goal.returns-in_default
returns-in_default c =
    not_erased _ _ (erase_unknown _ _ (is_one (goal.at.returns-in_default c).Else-not-is_whole) (sym c.place_of.ensures ∙ c.in_default.is))

pub bounds-pad-0 : goal.bounds-pad-0
bounds-pad-0 c = omega (arith, fit (goal.at.bounds-pad-0 c).In-Ok)

pub bounds-pad-1 : goal.bounds-pad-1
bounds-pad-1 c = omega (arith, fit (goal.at.bounds-pad-1 c).In-Ok)

pub overflow_add-hits : goal.overflow_add-hits
overflow_add-hits c = omega (arith, fit (goal.at.overflow_add-hits c).In-Ok)

pub offset_bounds-pad-at : goal.offset_bounds-pad-at
offset_bounds-pad-at c = omega (arith, fit (goal.at.offset_bounds-pad-at c).In-Ok)

pub bounds-pad-at : goal.bounds-pad-at
bounds-pad-at c = omega (arith, fit (goal.at.bounds-pad-at c).In-Ok)

pub overflow_mul-end : goal.overflow_mul-end
overflow_mul-end c = omega (arith, fit (goal.at.overflow_mul-end c).In-Ok, c.long.ensures)

pub overflow_add-end : goal.overflow_add-end
overflow_add-end c = omega (arith, fit (goal.at.overflow_add-end c).In-Ok, c.long.ensures)

pub overflow_mul-end-2 : goal.overflow_mul-end-2
overflow_mul-end-2 c = omega (arith, fit (goal.at.overflow_mul-end-2 c).In-Ok, c.long.ensures, c.long-2.ensures)

pub overflow_add-end-2 : goal.overflow_add-end-2
overflow_add-end-2 c = omega (arith, fit (goal.at.overflow_add-end-2 c).In-Ok, c.long.ensures, c.long-2.ensures)

pub overflow_mul-count : goal.overflow_mul-count
overflow_mul-count c =
    omega (arith, fit (goal.at.overflow_mul-count c).In-Ok, c.long-count.ensures)

pub overflow_add-count : goal.overflow_add-count
overflow_add-count c =
    omega (arith, fit (goal.at.overflow_add-count c).In-Ok, c.long-count.ensures)

pub overflow_add-at : goal.overflow_add-at
overflow_add-at c =
    omega (arith, fit (goal.at.overflow_add-at c).In-Ok, c.long-count.ensures)

pub overflow_sub-pad : goal.overflow_sub-pad
overflow_sub-pad c = omega (arith, fit (goal.at.overflow_sub-pad c).In-Ok)

pub bounds-pad-0-2 : goal.bounds-pad-0-2
bounds-pad-0-2 c = omega (arith, c.copy_within.ensures.len, fit (goal.at.bounds-pad-0-2 c).In-Ok)

pub overflow_sub-pad-2 : goal.overflow_sub-pad-2
overflow_sub-pad-2 c = omega (arith, fit (goal.at.overflow_sub-pad-2 c).In-Ok)

pub bounds-pad-1-2 : goal.bounds-pad-1-2
bounds-pad-1-2 c = simp length-set (omega (arith, c.copy_within.ensures.len, fit (goal.at.bounds-pad-1-2 c).In-Ok))

pub copy_within-requires : goal.copy_within-requires
copy_within-requires c =
    let f = fit (goal.at.copy_within-requires c).In-Ok in
    record {
      start_le_end = omega (arith, f, c.long-count.ensures, c.long.ensures, c.long-2.ensures);
      in_bounds = omega (arith, f, c.long-count.ensures, c.long.ensures, c.long-2.ensures);
      dest_in_bounds = omega (arith, f, c.long-count.ensures, c.long.ensures, c.long-2.ensures);
      not_exhausted = search rules;
    }

pub returns : goal.returns
returns c =
    let pad = c.args.pad.now in
    let w = is_one (goal.at.returns c).Else-not-is_whole in
    let b = begins (goal.at.returns c).In-Ok in
    let f = fit (goal.at.returns c).In-Ok in
    let p = c.in-Ok.at in
    let from = p + (3 + 2 * c.long-count.result) in
    let end = 2 + 3 * c.long.result + 2 * c.long-2.result in
    let moved : Put (between from end pad) p pad c.copy_within.new.self =
    record { left = c.copy_within.ensures.after ∙ copied pad from end p (omega (arith, f, c.long-count.ensures, c.long.ensures, c.long-2.ensures)) (omega (arith, f, c.long-count.ensures, c.long.ensures, c.long-2.ensures)) (omega (arith, f, c.long-count.ensures, c.long.ensures, c.long-2.ensures)) } in
    was_erased pad c.args.id w p _ _ c.long-count.ensures (erase_fine pad c.args.id w b)
    (erase_stores pad c.args.id w b _ _ _ c.long-count.ensures (omega (arith, c.long.ensures, c.long-2.ensures)) moved)
