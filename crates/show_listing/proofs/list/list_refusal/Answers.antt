use mathlib.Core.Path.{◌≡◌}
use lib.ListN.{length}
use native.Mathlib.Omega.{arith}
use Rattle.show_columns.proofs.Columns.{past_number}
use Rattle.show_listing.specs.Steps.{numbers_line}
use Rattle.show_listing.proofs.Listed.{listed, no_place, refusal_length, refusal_stored}
use Rattle.show_listing.proofs.list.list_refusal.Goals as goal
use Rattle.show_listing.proofs.list.list_refusal.Goals.{Start}

sized : (c : Start) → length (numbers_line c.args.x) ≡ 31
sized c = refusal_length c.args.x (omega arith) (omega arith) c.requires

pub returns-then-out-lt31 : goal.returns-then-out-lt31
returns-then-out-lt31 c = no_place (sized (goal.at.returns-then-out-lt31 c).Start) c.if-out-lt31.true

pub put_number-next-requires-2 : goal.put_number-next-requires-2
put_number-next-requires-2 c =
    (omega arith, omega (arith, past_number _ c.put_number-next.ensures (omega arith)))

pub put_number-end-requires : goal.put_number-end-requires
put_number-end-requires c = (
  c.requires,
  omega (arith, past_number _ c.put_number-next.ensures (omega arith), past_number _ c.put_number-next-2.ensures (omega arith)),
)

pub put_end-requires : goal.put_end-requires
put_end-requires c =
    omega (
      arith,
      past_number _ c.put_number-next.ensures (omega arith),
      past_number _ c.put_number-next-2.ensures (omega arith),
      past_number _ c.put_number-end.ensures c.requires,
    )

pub returns : goal.returns
returns c =
    listed (sized (goal.at.returns c).Start)
    (refusal_stored c.args.x c.put_number-next.ensures c.put_number-next-2.ensures c.put_number-end.ensures c.put_end.ensures)
    (omega arith)
