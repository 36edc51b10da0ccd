use mathlib.Core.Path.{refl}
use borrow.Author.Rules.{rules}
use native.Mathlib.Omega.{arith}
use Rattle.ask_names.specs.Steps.{no_list}
use Rattle.ask_names.proofs.Leads.{turned_none, turned_more, turned_all, swapped_at}
use Rattle.ask_names.proofs.slots.Names.lead_with_rarest.Goals as goal

pub loop-slot-init : goal.loop-slot-init
loop-slot-init c = turned_none _ _

pub loop-slot-preserved : goal.loop-slot-preserved
loop-slot-preserved c =
    let l = c.loop-slot in
    turned_more _ _ l.slot-items l.slot-index c.swapped.result l.invariant (omega arith) c.swapped.ensures

pub returns : goal.returns
returns c =
    let s = c.args.self.now in
    let l = c.loop-slot in (
      record {
        b = c.rarest-b.result;
        is_term = search (rules, c.rarest-b.ensures);
        taken = refl;
        different = refl;
        absent = refl;
        names =
            turned_all s.taken c.rarest-b.result s.slot l.slot-items l.slot-index l.invariant (search rules) (search rules)
            c.requires.0 (search rules);
        lists = swapped_at no_list s.list c.swap.new.self c.rarest-b.result c.swap.ensures.by_index;
        counts = swapped_at 0 s.wanted c.swap-2.new.self c.rarest-b.result c.swap-2.ensures.by_index;
      },
      refl,
    )
