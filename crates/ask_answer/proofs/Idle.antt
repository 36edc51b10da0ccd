-- A question that decodes nothing finds no document.
-- Assumes nothing.
use Rattle.std.specs.Prelude.{Ok}
use mathlib.Core.Path.{◌≡◌, refl}
use mathlib.Core.Bool.{Bool, true}
use mathlib.Core.List.{List}
use Prim.Native.Nat.{ℕ}
use native.Mathlib.Omega.{arith}
use lib.ListN.{length}
use borrow.Author.Tests.{le-leb}
use Rattle.rules.specs.declared.rule.Rule.{Rule}
use Rattle.rules.specs.Kinds.{idle}
use Rattle.calls.proofs.Answering.{answers_idle}
use Rattle.calls.proofs.Kept.{past_none}
use Rattle.read_open.specs.declared.header.Layout.{Layout}
use Rattle.ask_answer.specs.Promise.{LayoutAnswered}

pub idle_answered : (bytes : List ℕ) (at : Layout) (sure : Bool) (a : Rule) (ns : List (List ℕ)) (ids : List ℕ)
    → idle a (length ns) ≡ true → LayoutAnswered bytes at sure a ns ids (Ok 0) ids
idle_answered bytes at sure a ns ids t = record {
  kept = past_none ids;
  plain = λ s is known. rw (answers_idle s a ns t, le-leb 0 (length ids) (omega arith)) (refl, refl);
}
