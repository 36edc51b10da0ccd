use Rattle.std.specs.Prelude.{Ok}
use mathlib.Core.Path.{◌≡◌, refl}
use mathlib.Core.Bool.{false}
use lib.ListN.{take}
use native.Mathlib.Omega.{arith}
use Rattle.std.proofs.lemmas.Result.{err_from_is_err_and}
use Rattle.calls.proofs.Kept.{past_none}
use Rattle.ask_names.specs.Lists.{lists_decoded}
use Rattle.ask_names.proofs.Leads.{led_slots}
use Rattle.ask_answer.proofs.Led.{answered_led, led_back}
use Rattle.ask_answer.proofs.Any.{any_long, any_few, any_inside, any_below, any_room, any_slots, any_kept}
use Rattle.ask_answer.proofs.Own.{names_refused, known_passed, names_absent, names_found}
use Rattle.ask_answer.proofs.names.answer_names.Goals as goal
use Rattle.ask_answer.proofs.names.answer_names.Goals.{In_ok-check_lists}

-- the lists were decoded, or are known to
seen : (c : In_ok-check_lists) → let a = c.args in
    a.sure ≡ false → (Ok tt) ≡ lists_decoded a.bytes.now a.at (take a.names.now.different a.names.now.list)
seen c = rw c.in_ok-check_lists.was at c.check_lists.ensures

pub check_lists-requires : goal.check_lists-requires
check_lists-requires c = any_inside c.requires

pub shared_ref_as_front-check_lists : goal.shared_ref_as_front-check_lists
shared_ref_as_front-check_lists c = any_few c.requires

pub returns-in_err-check_lists-clause-answered : goal.returns-in_err-check_lists-clause-answered
returns-in_err-check_lists-clause-answered c =
    let p = err_from_is_err_and c.from_residual.result c.from_residual.ensures.1 in
    rw (p.1, p.2)
    (record {
      kept = refl;
      plain = λ q known. names_refused q (rw c.in_err-check_lists.was at c.check_lists.ensures) _;
    })

pub returns-then-names-clause-answered : goal.returns-then-names-clause-answered
returns-then-names-clause-answered c =
    record {
      kept = past_none _;
      plain = λ q known.
          names_absent q (known_passed q _ (seen (goal.at.returns-then-names-clause-answered c).In_ok-check_lists) known) c.if-names.true _;
    }

pub lead_with_rarest-b-requires : goal.lead_with_rarest-b-requires
lead_with_rarest-b-requires c = let s = any_slots c.requires c.if-names.false in (any_room c.requires, s.1, s.2)

pub answer_lists-answer-requires : goal.answer_lists-answer-requires
answer_lists-answer-requires c =
    let p = c.requires in
    let s = any_slots p c.if-names.false in
    let led = c.lead_with_rarest-b.ensures.0 in
    (led_slots led s.0 s.2 (any_below p c.if-names.false), rw led.different s.1, rw led.different s.2)

pub swap-requires-clause-b_in_bounds : goal.swap-requires-clause-b_in_bounds
swap-requires-clause-b_in_bounds c =
    let (led, is) = c.lead_with_rarest-b.ensures in
    omega (arith, is, led.is_term, any_few c.requires)

pub returns-clause-answered : goal.returns-clause-answered
returns-clause-answered c =
    let v = answered_led c.args.bytes.now c.lead_with_rarest-b.ensures.0 c.answer_lists-answer.ensures in
    record {
      kept = any_kept c.requires c.if-names.false v;
      plain = λ q known.
          names_found q (known_passed q c.args.sure (seen (goal.at.returns-clause-answered c).In_ok-check_lists) known) c.if-names.false
          c.lead_with_rarest-b.ensures.0.is_term v;
    }

pub returns-clause-kept : goal.returns-clause-kept
returns-clause-kept c =
    let led = c.lead_with_rarest-b.ensures.0 in
    record {
      taken = led.taken;
      different = led.different;
      absent = led.absent;
      lists =
          led_back led c.lead_with_rarest-b.ensures.1 c.swap.ensures.by_index (omega (arith, c.swap.ensures.len, any_long c.requires));
    }
