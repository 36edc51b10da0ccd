use mathlib.Core.Path.{◌≡◌, refl, sym, ap, ◌∙◌}
use Prim.Native.Nat.{◌+◌, ◌-◌}
use native.Mathlib.Omega.{arith}
use lib.ListN.{length}
use lib.Seq.{sets}
use Rattle.show_listing.specs.Steps.{entry_lines_at}
use Rattle.common.proofs.Stores.{stored_length, stored_on}
use Rattle.show_listing.proofs.Texts.{entry_lines_next, entry_lines_less, entry_lines_end}
use Rattle.show_listing.proofs.list.put_entries.Goals as goal

pub loop-i-init : goal.loop-i-init
loop-i-init c =
    let none : c.args.terms - 0 ≡ c.args.terms = omega arith in
    (rw none, refl, rw none)

pub put_entry-next-requires : goal.put_entry-next-requires
put_entry-next-requires c =
    let l = c.loop-i in
    let a = c.args in
    let next = entry_lines_less a.dir.now a.names.now a.terms l.i (omega arith) in
    (c.requires.inside l.i (omega arith), omega (arith, c.requires.room, l.invariant.0, next))

pub loop-i-preserved : goal.loop-i-preserved
loop-i-preserved c =
    let l = c.loop-i in
    let a = c.args in
    let stored = c.put_entry-next.ensures in (
      omega (arith, stored.past, l.invariant.0, entry_lines_less a.dir.now a.names.now a.terms l.i (omega arith)),
      stored_length stored ∙ l.invariant.1,
      stored_on (entry_lines_at a.dir.now a.names.now (a.terms - (l.i + 1)) (l.i + 1)) stored
          (ap (sets l.out l.next) (sym (entry_lines_next a.dir.now a.names.now a.terms l.i (omega arith)))
          ∙ l.invariant.2),
    )

pub shape_of-out : goal.shape_of-out
shape_of-out c = c.loop-i.invariant.1

pub returns : goal.returns
returns c =
    let l = c.loop-i in
    let a = c.args in
    let none = entry_lines_end a.dir.now a.names.now a.terms l.i (omega arith) in
    record { past = omega (arith, l.invariant.0, ap length none); left = rw none at l.invariant.2 }
