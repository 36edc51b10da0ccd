-- A questioned name passes exactly when it is small and UTF-8.
-- Assumes nothing.
use Rattle.std.specs.Prelude.{Ok}
use mathlib.Core.Path.{◌≡◌, refl}
use mathlib.Core.Bool.{Bool, true, false}
use lib.Dec.{leb}
use lib.ListN.{length}
use borrow.Author.Tests.{leb-true, le-leb}
use Rattle.utf8.specs.Utf8.{utf8}
use Rattle.utf8.proofs.Text.{grammar_agrees}
use Rattle.segment.specs.Results.{check}
use Rattle.segment.specs.Refusals.{invalid_utf8}
use Rattle.segment.proofs.Binds.{refuse_ok}
use Rattle.segment.proofs.Accepted.{check_gives}
use Rattle.calls.specs.Lookups.{well_named}
use Rattle.calls.specs.Claims.{WellNamedExactly}

passed : (t : Bool) → check t invalid_utf8 ≡ Ok tt → t ≡ true
passed true e = refl
passed false e = refuse_ok e

pub named_exactly : WellNamedExactly
unfolding well_named
named_exactly name = (
  λ e.
      let (small, rest) = check_gives (leb (length name) 16777216) _ _ e in
      (leb-true (length name) 16777216 small, (grammar_agrees name).0 (passed (utf8 name) rest)),
  λ h. rw (le-leb (length name) 16777216 h.0, (grammar_agrees name).1 h.1),
)
