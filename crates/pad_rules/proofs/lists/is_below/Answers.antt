use Rattle.std.specs.Prelude.{EachIndex, ◌↔◌}
use mathlib.Core.Path.{◌≡◌}
use mathlib.Core.Bool.{true}
use Prim.Native.Nat.{◌<◌}
use lib.ListN.{get_or}
use Rattle.std.proofs.Common.{rules}
use Rattle.pad_rules.proofs.Listing.{below_by_each}
use Rattle.pad_rules.proofs.lists.is_below.Goals as goal

pub returns : goal.returns
returns c =
    let a = c.args in
    let each : (c.all.result ≡ true) ↔ EachIndex a.steps.now (λ k. get_or a.steps.now k 0 < a.len) = search rules in
    below_by_each _ _ _ each
