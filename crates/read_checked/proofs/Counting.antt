-- The counts of the postings of a list, added up: no fewer than the positions that are there, and just as many in a list that decodes.
-- Assumes nothing.
use Rattle.std.specs.Prelude.{None}
use mathlib.Core.Path.{◌≡◌, refl, sym, ap, ◌∙◌}
use mathlib.Core.List.{List, [], ◌∷◌, map}
use Prim.Native.Nat.{ℕ, ◌+◌, ◌≤◌, ◌<◌}
use native.Mathlib.Omega.{arith}
use lib.ListN.{length, drop, length-append}
use Rattle.common.specs.Lists.{total}
use Rattle.segment.specs.Records.{Posting}
use Rattle.segment.specs.Postings.{total_positions}
use Rattle.read_cursors.specs.Held.{rest_of, PostingAt, positions_there, held_postings}
use Rattle.read_cursors.specs.Steps.{postings_at}
use Rattle.read_cursors.proofs.Rising.{positions_few}
use Rattle.read_terms.specs.Steps.{ListIsDecoded}
use Rattle.read_terms.proofs.Turns.{posting_turn, no_posting}
use Rattle.read_positions.specs.Steps.{all_positions}
use Rattle.read_checked.specs.Steps.{counts_in}

-- ---- a turn of the count: what was added up, and what is still to come

pub counts_start : {these all : List PostingAt} → these ≡ all → 0 + counts_in these ≡ counts_in all
counts_start e = omega (arith, ap counts_in e)

module _ (s : List ℕ) (left at count doc sum : ℕ) {all : ℕ} (inv : sum + counts_in (postings_at left at count doc s) ≡ all) where
  pub counts_next : {more : List PostingAt} {n : ℕ} → 0 < left → more ≡ rest_of (postings_at left at count doc s) → n ≡ count
      → sum + n + counts_in more ≡ all
  counts_next h e is = omega (arith, inv, ap counts_in (posting_turn s left at count doc h e))

  pub counts_end : left ≤ 0 → sum ≡ all
  counts_end h = omega (arith, inv, ap counts_in (no_posting s left at count doc h))

-- ---- counts and positions

pub positions_within : (ss : List PostingAt) → length (all_positions ss) ≤ counts_in ss
positions_within [] = omega arith
positions_within (s ∷ ss) =
    omega (
      arith,
      length-append (positions_there s) (all_positions ss),
      positions_few s.count None s.bytes,
      positions_within ss,
    )

lengths_total : (ps : List Posting) → total (map (λ p. length p.positions) ps) ≡ total_positions ps
unfolding total_positions
lengths_total [] = refl
lengths_total (p ∷ ps) = ap (λ (n : ℕ). length p.positions + n) (lengths_total ps)

-- a decoded list has as many positions as its counts say
pub list_counted : {bytes name : List ℕ} {start df positions n : ℕ} → ListIsDecoded bytes name start df positions
    → n ≡ counts_in (held_postings df None (drop start bytes)) → ListIsDecoded bytes name start df n
list_counted d is = record {
  postings = d.postings;
  decoded = d.decoded;
  walked = d.walked;
  counts = d.counts;
  count = d.count;
  total = sym (is ∙ ap total d.counts ∙ lengths_total d.postings);
}
