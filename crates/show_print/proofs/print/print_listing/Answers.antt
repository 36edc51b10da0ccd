use Rattle.std.specs.Prelude.{Err, Ok}
use Rattle.std.specs.Result.{result_unwrap_or}
use mathlib.Core.Path.{refl}
use mathlib.Core.List.{List}
use Prim.Native.Nat.{ℕ, ◌≤◌}
use lib.ListN.{length}
use native.Mathlib.Omega.{arith}
use Rattle.std.proofs.lemmas.Result.{err_from_is_err_and}
use Rattle.segment.specs.Results.{Answer}
use Rattle.show_listing.specs.Promise.{ListedInto, ListedWhole}
use Rattle.show_listing.proofs.Fitting.{listed_whole, none_refused}
use Rattle.show_print.proofs.print.print_listing.Goals as goal

-- with room for every listing there is no refusal to put a 0 for
whole : {bytes out out' : List ℕ} (r : Answer ℕ) → ListedInto bytes out r out' → 687393 ≤ length out
    → ListedWhole bytes out (result_unwrap_or r 0) out'
whole (Ok k) l room = listed_whole l room refl
whole (Err x) l room = none_refused l room refl

pub returns-in_err-write_listing-clause-err : goal.returns-in_err-write_listing-clause-err
returns-in_err-write_listing-clause-err g c =
    let p = err_from_is_err_and c.from_residual.result c.from_residual.ensures.1 in
    let (k, l) = c.in_err-write_listing.ensures.err in
    rw p.1 (k, listed_whole l (omega (arith, c.told-text)) refl)

pub returns-clause-ok : goal.returns-clause-ok
returns-clause-ok g c = rw c.unwrap_or.ensures (whole _ c.in_ok-write_listing.ensures.ok (omega (arith, c.told-text)))
