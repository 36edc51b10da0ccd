use Rattle.std.specs.Prelude.{Some}
use mathlib.Core.Path.{ap, ◌∙◌}
use Prim.Native.Nat.{◌-◌}
use native.Mathlib.Omega.{arith}
use Rattle.read_cursors.specs.Held.{held_postings}
use Rattle.read_cursors.proofs.Seeks.{rest_none}
use Rattle.read_cursors.proofs.Entering.{postings_ahead, postings_past}
use Rattle.read_cursors.proofs.postings.Postings.advance_each.Goals as goal

pub returns-then-self-eq0 : goal.returns-then-self-eq0
returns-then-self-eq0 c =
    let a = c.args in
    let p = a.self in
    record {
      holds = rest_none (postings_ahead a.bytes.now p.remaining p.at p.count p.doc.0) c.if-self-eq0.true;
      less = omega arith;
    }

pub returns : goal.returns
returns c =
    let a = c.args in
    let p = a.self in
    record {
      holds = c.enter.ensures.holds ∙ ap (held_postings (p.remaining - 1) (Some p.doc.0)) c.skip-past.ensures
          ∙ postings_past a.bytes.now p.remaining p.at p.count p.doc.0 c.if-self-eq0.false;
      less = c.enter.ensures.less;
    }
