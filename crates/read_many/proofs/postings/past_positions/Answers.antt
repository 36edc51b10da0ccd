-- The number of positions, then the positions.
use mathlib.Core.Path.{sym, ◌∙◌}
use native.Mathlib.Omega.{arith}
use Rattle.std.proofs.lemmas.Option.{IfSome_then}
use Rattle.read_many.proofs.Passing.{posted_of}
use Rattle.read_many.proofs.postings.past_positions.Goals as goal

pub returns : goal.returns
returns c =
    let a = c.args in
    IfSome_then c.past_gaps.result c.past_gaps.ensures
    (λ past p. posted_of a.list.now a.at (sym c.number.ensures ∙ c.in_ok-count.was) (omega (arith, c.if-count-eq0.false)) p)
