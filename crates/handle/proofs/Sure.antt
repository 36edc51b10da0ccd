-- The lists in batches: where all of a batch decode, the lists after it are left.
-- Assumes nothing.
use mathlib.Core.Path.{◌≡◌, ◌∙◌}
use mathlib.Core.List.{List}
use Prim.Native.Nat.{ℕ, zero, suc, ◌+◌, ◌≤◌, ◌<◌}
use native.Mathlib.Omega.{arith}
use lib.ListN.{get_or}
use Rattle.segment.specs.Records.{Segment}
use Rattle.read_open.specs.declared.header.Layout.{Layout}
use Rattle.read_open.specs.Opened.{IsOpen, no_entry}
use Rattle.read_terms.specs.Together.{ListDecodes}
use Rattle.handle.specs.Steps.{BatchDecodes, rest_checked}
use Rattle.handle.proofs.Lists.{lists_step}

module _ (bytes : List ℕ) (l : Layout) {s : Segment} (is : IsOpen bytes l s) where
  -- where m lists decode, those after them are left
  sure_rest : (m from : ℕ) → from + m ≤ l.terms
      → ((k : ℕ) → k < m → ListDecodes s.documents (get_or s.entries (from + k) no_entry))
      → rest_checked s from ≡ rest_checked s (from + m)
  sure_rest zero from h d =
      let none_more : from + 0 ≡ from = omega arith in
      rw none_more
  sure_rest (suc m) from h d =
      let first : from + 0 ≡ from = omega arith in
      let last : (from + 1) + m ≡ from + suc m = omega arith in
      let more = sure_rest m (from + 1) (omega arith)
      (λ k g.
      let next : from + suc k ≡ (from + 1) + k = omega arith in
      rw next at (d (suc k) (omega arith))) in
      lists_step bytes l is {i = from} (omega arith) (rw first at (d 0 (omega arith))) ∙ rw last at more

  pub batch_rest : (from m : ℕ) → from + m ≤ l.terms → BatchDecodes bytes l from m → rest_checked s from ≡ rest_checked s (from + m)
  batch_rest from m h b = sure_rest m from h (b.each s is)
