use mathlib.Core.Path.{sym, ◌∙◌}
use Rattle.pad_rules.proofs.Listing.{rise_stop, rise_next, rise_end}
use Rattle.pad_rules.proofs.lists.is_rising.Goals as goal

pub returns-then-not-follows : goal.returns-then-not-follows
returns-then-not-follows c =
    let a = c.args in
    rise_stop _ a.sounds.now a.steps.now c.requires c.loop-i.i c.loop-i.invariant c.loop-i-test.true _
    c.from.ensures (sym c.if-not-follows.true ∙ c.follows.ensures)

pub loop-i-preserved : goal.loop-i-preserved
loop-i-preserved c =
    let a = c.args in
    rise_next _ a.sounds.now a.steps.now c.requires c.loop-i.i c.loop-i.invariant c.loop-i-test.true _
    c.from.ensures (sym c.if-not-follows.false ∙ c.follows.ensures)

pub returns : goal.returns
returns c =
    let a = c.args in
    rise_end _ a.sounds.now a.steps.now c.requires c.loop-i.i c.loop-i.invariant c.loop-i-test.false
