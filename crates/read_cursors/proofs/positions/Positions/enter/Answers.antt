use mathlib.Core.Path.{sym, ap, ◌∙◌}
use borrow.Author.Rules.{rules}
use Rattle.read_cursors.specs.Steps.{value_means}
use Rattle.read_cursors.proofs.Entering.{value_ok, value_refused, positions_end, positions_refused, positions_next}
use Rattle.read_cursors.proofs.positions.Positions.enter.Goals as goal

pub returns-then-remaining-eq0 : goal.returns-then-remaining-eq0
returns-then-remaining-eq0 c =
    let a = c.args in
    record { holds = positions_end a.bytes.now a.from.at _ a.remaining _ _ c.if-remaining-eq0.true; less = search rules }

pub returns-in_default : goal.returns-in_default
returns-in_default c =
    let a = c.args in
    let s = a.bytes.now in
    let e = sym c.read_value.ensures ∙ ap (value_means s) c.in_default.is in
    record {
      holds = positions_refused s a.from.at _ a.remaining _ _ (value_refused _ _ _ _ _ _ _ _ e).1;
      less = search rules;
    }

pub returns : goal.returns
returns c =
    let a = c.args in
    let s = a.bytes.now in
    let e = sym c.read_value.ensures ∙ ap (value_means s) c.in-Ok.is in
    record {
      holds = positions_next s a.from.at _ a.remaining c.in-Ok.gap (value_ok _ _ _ _ _ _ _ _ e);
      less = search rules;
    }
