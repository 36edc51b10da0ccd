use Rattle.std.specs.Prelude.{Ok}
use mathlib.Core.Path.{◌≡◌, refl}
use lib.ListN.{take}
use native.Mathlib.Omega.{arith}
use Rattle.std.proofs.lemmas.Result.{err_from_is_err_and}
use Rattle.ask_names.specs.Lists.{lists_decoded}
use Rattle.ask_names.proofs.Leads.{led_slots}
use Rattle.ask_answer.proofs.Led.{led_back}
use Rattle.ask_answer.proofs.Any as any
use Rattle.ask_ranked.proofs.Stored.{some_led, ranked_led}
use Rattle.ask_ranked.proofs.Asked.{asked_refused, asked_absent, asked_found}
use Rattle.ask_ranked.proofs.names.rank_names.Goals as goal
use Rattle.ask_ranked.proofs.names.rank_names.Goals.{In_ok-check_lists}

-- the lists were decoded
seen : (c : In_ok-check_lists) → let a = c.args in
    (Ok tt) ≡ lists_decoded a.bytes.now a.at (take a.names.now.different a.names.now.list)
seen c = rw c.in_ok-check_lists.was at c.check_lists.ensures refl

pub check_lists-requires : goal.check_lists-requires
check_lists-requires c = any.any_inside c.requires

pub shared_ref_as_front-check_lists : goal.shared_ref_as_front-check_lists
shared_ref_as_front-check_lists c = any.any_few c.requires

pub returns-in_err-check_lists-clause-answered : goal.returns-in_err-check_lists-clause-answered
returns-in_err-check_lists-clause-answered c =
    let p = err_from_is_err_and c.from_residual.result c.from_residual.ensures.1 in
    rw (p.1, p.2) (record { replies = λ q. asked_refused q _ _ (rw c.in_err-check_lists.was at c.check_lists.ensures) })

pub returns-then-names-clause-answered : goal.returns-then-names-clause-answered
returns-then-names-clause-answered c =
    record { replies = λ q. asked_absent q _ _ (seen (goal.at.returns-then-names-clause-answered c).In_ok-check_lists) c.if-names.true }

pub lead_with_rarest-b-requires : goal.lead_with_rarest-b-requires
lead_with_rarest-b-requires c = let s = any.any_slots c.requires c.if-names.false in (any.any_room c.requires, s.1, s.2)

pub rank_lists-answer-requires : goal.rank_lists-answer-requires
rank_lists-answer-requires c =
    let p = c.requires in
    let here = c.if-names.false in
    let s = any.any_slots p here in
    let led = c.lead_with_rarest-b.ensures.0 in (
      led_slots led s.0 s.2 (any.any_below p here),
      rw led.different s.1,
      rw led.different s.2,
      some_led _ led (any.own p here) (any.names p) (any.fitting p here),
    )

pub swap-requires-clause-b_in_bounds : goal.swap-requires-clause-b_in_bounds
swap-requires-clause-b_in_bounds c =
    let (led, is) = c.lead_with_rarest-b.ensures in
    omega (arith, is, led.is_term, any.any_few c.requires)

pub returns-clause-answered : goal.returns-clause-answered
returns-clause-answered c =
    let led = c.lead_with_rarest-b.ensures.0 in
    let v = ranked_led c.args.bytes.now led c.rank_lists-answer.ensures in
    record { replies = λ q. asked_found q _ _ (seen (goal.at.returns-clause-answered c).In_ok-check_lists) c.if-names.false led.is_term v }

pub returns-clause-kept : goal.returns-clause-kept
returns-clause-kept c =
    let led = c.lead_with_rarest-b.ensures.0 in
    record {
      taken = led.taken;
      different = led.different;
      absent = led.absent;
      lists =
          led_back led c.lead_with_rarest-b.ensures.1 c.swap.ensures.by_index (omega (arith, c.swap.ensures.len, any.any_long c.requires));
    }
