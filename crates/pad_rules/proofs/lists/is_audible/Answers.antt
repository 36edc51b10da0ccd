use Rattle.std.specs.Prelude.{EachIndex, ◌↔◌}
use mathlib.Core.Path.{◌≡◌}
use mathlib.Core.Bool.{true}
use lib.ListN.{get_or}
use Rattle.std.proofs.Common.{rules}
use Rattle.pad_map.specs.Rules.{VelocityFits}
use Rattle.pad_rules.proofs.Listing.{audible_by_each}
use Rattle.pad_rules.proofs.lists.is_audible.Goals as goal

pub returns : goal.returns
returns c =
    let a = c.args in
    let each : (c.all.result ≡ true) ↔ EachIndex a.velocities.now (λ k. VelocityFits (get_or a.velocities.now k 0)) = search rules in
    audible_by_each _ _ each
