-- Past the first document the list is the rest of the list.
use mathlib.Core.Path.{sym, ◌∙◌}
use Prim.Native.Nat.{◌-◌}
use native.Mathlib.Omega.{arith}
use borrow.Author.Rules.{rules}
use Rattle.read_cursors.proofs.Seeks.{rest_none}
use Rattle.read_cursors.proofs.DocumentCursors.{documents_ahead, documents_past, enter_next}
use Rattle.read_cursors.proofs.QuickSteps.{sure_document}
use Rattle.read_cursors.proofs.documents.Documents.advance.Goals as goal

pub returns-then-self-eq0 : goal.returns-then-self-eq0
returns-then-self-eq0 c =
    let a = c.args in
    let p = a.self in
    record {
      list = rest_none (documents_ahead a.meta.now p.remaining p.at p.id.0 p.len) c.if-self-eq0.true;
      less = search rules;
    }

pub returns-in-Some : goal.returns-in-Some
returns-in-Some c =
    let a = c.args in
    let s = a.meta.now in
    let p = a.self in
    record {
      list =
          enter_next s p.at _ 1 (p.remaining - 1) _ _ _ (sym (sure_document s _ c.short_document.ensures c.in-Some.is))
          ∙ documents_past s p.remaining p.at p.id.0 p.len c.if-self-eq0.false;
      less = search rules;
    }

pub returns : goal.returns
returns c =
    let a = c.args in
    let p = a.self in
    record {
      list = c.enter.ensures.list ∙ documents_past a.meta.now p.remaining p.at p.id.0 p.len c.if-self-eq0.false;
      less = omega (arith, c.enter.ensures.less);
    }
