-- The position counts of what was handed in add up to the number of positions.
-- Assumes nothing.
use mathlib.Core.Path.{◌≡◌, refl, ap, ◌∙◌}
use mathlib.Core.List.{List, [], ◌∷◌, map}
use Prim.Native.Nat.{ℕ, ◌+◌}
use lib.ListN.{length}
use Rattle.segment.specs.Records.{Term}
use Rattle.segment.specs.Postings.{total_positions}
use Rattle.calls.specs.Given.{Lists, given, laid_flat}
use Rattle.common.specs.Lists.{joined}
use Rattle.calls.specs.Acceptance.{Shape}
use Rattle.calls.proofs.Flat.{flat_again}
use Rattle.calls.proofs.Lengths.{all_positions, total_is}
use Rattle.roundtrip.specs.Claims.{all_position_counts}

counts_are : (ts : List Term) → all_position_counts ts ≡ length (all_positions (joined (map (λ t. t.postings) ts)))
counts_are [] = refl
counts_are (t ∷ ts) = ap (λ (n : ℕ). total_positions t.postings + n) (counts_are ts) ∙ total_is t.postings _

pub counts_add_up : (l : Lists) → Shape l → all_position_counts (given l).terms ≡ length l.positions
unfolding laid_flat
counts_add_up l s = counts_are (given l).terms ∙ ap (λ (k : Lists). length k.positions) (flat_again l s)
