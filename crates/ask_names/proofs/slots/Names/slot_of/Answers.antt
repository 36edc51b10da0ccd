use mathlib.Core.Path.{◌≡◌}
use lib.ListN.{take}
use borrow.Author.Rules.{rules}
use borrow.Author.Tests.{tests}
use native.Mathlib.Omega.{arith}
use Rattle.std.proofs.lemmas.Iterator.{IsFirst-from_position, YieldsList-from_slice}
use Rattle.ask_names.proofs.SlotTurns.{slot_found}
use Rattle.ask_names.proofs.slots.Names.slot_of.Goals as goal

pub returns : goal.returns
returns c =
    let s = c.args.self.now in
    let x = c.args.entry in
    rw c.unwrap_or.ensures
    (slot_found s.different s.list x (omega arith) c.position.result
    (IsFirst-from_position _ _ _ (λ l. l.entry ≡ x) (λ l. l.entry ≡ x → ⊥) c.position.ensures.ran
    (YieldsList-from_slice (take s.different s.list) cc) (λ l q k. search (rules, tests)) (λ l q k. search (rules, tests))))
