use native.Mathlib.Omega.{arith}
use mathlib.Core.Path.{◌≡◌, sym}
use Prim.Native.Nat.{◌<◌}
use lib.ListN.{length, length-set}
use Rattle.std.proofs.Common.{get_or-set_other, get_or-set_same, below_more}
use Rattle.common.proofs.Loops.{true_false}
use Rattle.read_terms.proofs.Finding.{own_entry}
use Rattle.read_terms.proofs.together.spread_entries.Goals as goal

pub entry_list-list-requires : goal.entry_list-list-requires
entry_list-list-requires c = own_entry c.requires.0 _ (omega (arith, c.requires.1))

pub returns-then-not-sum_matches : goal.returns-then-not-sum_matches
returns-then-not-sum_matches c = λ e. true_false (sym e)

pub loop-k-preserved : goal.loop-k-preserved
loop-k-preserved c =
    let in_start : c.loop-k.k < length c.loop-k.start = omega (arith, c.loop-k.invariant.0, c.loop-k-test.true, c.requires.2) in
    let in_end : c.loop-k.k < length c.loop-k.end = omega (arith, c.loop-k.invariant.1, c.loop-k-test.true, c.requires.2) in
    let in_df : c.loop-k.k < length c.loop-k.df = omega (arith, c.loop-k.invariant.2, c.loop-k-test.true, c.requires.2) in (
      simp length-set c.loop-k.invariant.0,
      simp length-set c.loop-k.invariant.1,
      simp length-set c.loop-k.invariant.2,
      below_more _ _
          (λ j h. let ne : j ≡ c.loop-k.k → ⊥ = (λ e. omega arith) in
          rw (get_or-set_other, get_or-set_other, get_or-set_other) (c.loop-k.invariant.3 j h))
          (record {
            list = _;
            is = c.entry_list-list.ensures;
            sum = c.sum_matches.ensures c.if-not-sum_matches.false;
            start_is = get_or-set_same _ _ _ _ in_start;
            end_is = get_or-set_same _ _ _ _ in_end;
            df_is = get_or-set_same _ _ _ _ in_df;
          }),
    )

pub returns : goal.returns
returns c = λ e. record { each = λ k h. c.loop-k.invariant.3 k (omega arith) }
