-- What the questions with a handle promise, for any bytes and any handle: `kept`, what the call leaves of the lent buffer, always; and
-- `plain`, that a handle which checking answered for these very bytes gives what the plain call gives. That a call ends and reads inside
-- the slices holds of every proved function.
use Rattle.segment.specs.Results.{Answer}
use Rattle.std.specs.Prelude.{ℕ, List}
use Rattle.rules.specs.declared.rule.Rule.{Rule}
use Rattle.calls.specs.Kept.{Kept}
use Rattle.handle.specs.declared.handle.Handle.{Handle}
use Rattle.handle.specs.Handles.{HandleOf}
use Rattle.ask_search.specs.Promise.{TextAnswered, TwoAnswered}

pub record TextChecked (bytes : List ℕ) (h : Handle) (a : Rule) (text ends ids : List ℕ) (r : Answer ℕ) (ids' : List ℕ) : Type 0 where
  pub kept : Kept ids r ids'
  pub plain : HandleOf bytes h → TextAnswered bytes a text ends ids r ids'

pub record TwoChecked (bytes : List ℕ) (h : Handle) (window : ℕ) (a b ids : List ℕ) (r : Answer ℕ) (ids' : List ℕ) : Type 0 where
  pub kept : Kept ids r ids'
  pub plain : HandleOf bytes h → TwoAnswered bytes window a b ids r ids'
