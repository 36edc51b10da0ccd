-- What the three calls promise: the reply, and the lent buffer afterwards.
use Rattle.segment.specs.Results.{Answer}
use Rattle.std.specs.Prelude.{ℕ, ◌≡◌, List, length}
use Rattle.calls.specs.Replies.{count_of, filled}
use Rattle.rules.specs.declared.rule.Rule.{Rule}
use Rattle.calls.specs.Questions.{search_text, search_two}

pub record TextAnswered (bytes : List ℕ) (a : Rule) (text ends ids : List ℕ) (r : Answer ℕ) (ids' : List ℕ) : Type 0 where
  pub reply : r ≡ count_of (search_text bytes a text ends (length ids))
  pub left : ids' ≡ filled (λ xs. xs) (search_text bytes a text ends (length ids)) ids

pub record TwoAnswered (bytes : List ℕ) (window : ℕ) (a b ids : List ℕ) (r : Answer ℕ) (ids' : List ℕ) : Type 0 where
  pub reply : r ≡ count_of (search_two bytes window a b (length ids))
  pub left : ids' ≡ filled (λ xs. xs) (search_two bytes window a b (length ids)) ids
