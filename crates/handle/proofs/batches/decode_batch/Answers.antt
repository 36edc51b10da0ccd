use Rattle.std.proofs.lemmas.Result.{err_from_is_err_and}
use mathlib.Core.Path.{◌≡◌, sym, ◌∙◌}
use Prim.Native.Nat.{◌<◌}
use native.Mathlib.Omega.{arith}
use Rattle.read_terms.proofs.Finding.{own_entry}
use Rattle.handle.proofs.Lists.{lists_next, lists_stop}
use Rattle.handle.proofs.batches.decode_batch.Goals as goal
use Rattle.handle.proofs.batches.decode_batch.Goals.{In-loop-i}

-- A turn's index is that of an entry
below : (c : In-loop-i) → c.loop-i.i < c.args.at.terms
below c = omega (arith, c.loop-i-test.true, c.requires.2)

pub entry_list-requires : goal.entry_list-requires
entry_list-requires c = own_entry c.requires.0 c.loop-i.i (below c)

pub loop-i-preserved : goal.loop-i-preserved
loop-i-preserved c =
    λ s is.
    c.loop-i.invariant s is
    ∙ lists_next _ _ is c.entry_list.ensures (below (goal.at.loop-i-preserved c).In-loop-i)
    (sym c.in_ok-decode_postings.was ∙ c.decode_postings.ensures)

pub returns-in_err-decode_postings : goal.returns-in_err-decode_postings
returns-in_err-decode_postings c =
    let p = err_from_is_err_and c.from_residual.result c.from_residual.ensures.1 in
    let b = below (goal.at.returns-in_err-decode_postings c).In-loop-i in
    rw (p.1, p.2)
    (λ s is.
    lists_stop _ _ is c.entry_list.ensures b (sym c.in_err-decode_postings.was ∙ c.decode_postings.ensures)
    ∙ sym (c.loop-i.invariant s is))

pub returns : goal.returns
returns c =
    λ s is.
    let last : c.loop-i.i ≡ c.args.to = omega (arith, c.loop-i.auto.i-end, c.requires.1, c.loop-i-test.false) in
    rw last at (c.loop-i.invariant s is)
