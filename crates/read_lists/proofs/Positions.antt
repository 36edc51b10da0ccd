-- Positions read one by one: the rest from here is the whole.
-- Assumes nothing.
use Rattle.std.specs.Prelude.{Err, Ok, Option, Some}
use mathlib.Core.Path.{◌≡◌, refl, sym, ap, ◌∙◌}
use mathlib.Core.List.{List, ◌∷◌}
use Prim.Native.Nat.{ℕ, suc, ◌+◌, ◌-◌, ◌≤◌, ◌<◌}
use native.Mathlib.Omega.{arith}
use lib.ListN.{drop}
use borrow.Author.Tests.{lt-ltb, le-ltb}
use Rattle.leb128.specs.declared.varint.Number.{Number}
use Rattle.common.proofs.Loops.{left_suc, left_none}
use Rattle.segment.specs.declared.refusal.Refusal.{Refusal}
use Rattle.segment.specs.Refusals.{position_overflow, invalid_layout, non_increasing_position, position_exceeds_length}
use Rattle.segment.specs.Results.{Answer, ◌>>=◌}
use Rattle.segment.specs.Records.{Read}
use Rattle.segment.specs.Postings.{read_value, read_position, read_positions}
use Rattle.read_cursors.specs.Steps.{value_means}
use Rattle.read_lists.specs.Steps.{after}
use Rattle.read_cursors.proofs.Gaps.{value_shorter, further}

-- the bytes after the last do not depend on the first
after_more : {A : Type 0} (p : A) (m : Answer (Read (List A)))
    → after (m >>= λ more. Ok (record { got = p ∷ more.got; rest = more.rest })) ≡ after m
after_more p (Ok a) = refl
after_more p (Err x) = refl

module _ (list : List ℕ) (at count place len i : ℕ) (previous : Option ℕ) {whole : Answer (List ℕ)}
    (inv : after (read_positions (count - i) (place + i) len previous (drop at list)) ≡ whole) where
  turn : i < count
      → after (read_position (place + i) len previous (drop at list) >>= λ p.
      read_positions (count - (i + 1)) (suc (place + i)) len (Some p.got) p.rest >>= λ more.
      Ok (record { got = p.got ∷ more.got; rest = more.rest })) ≡ whole
  unfolding read_positions
  turn h = rw (left_suc count i h) at inv

  module _ (h : i < count) (v : Answer Number)
      (answer : value_means list v
      ≡ read_value (position_overflow (place + i)) (invalid_layout non_increasing_position) (place + i) previous (drop at list)) where
    pub positions_stop : {x : Refusal} → v ≡ Err x → Err x ≡ whole
    unfolding read_position
    positions_stop e = rw (← answer, e) at (turn h)

    module _ {n : Number} (e : v ≡ Ok n) where
      pub positions_long : len ≤ n.value → Err (invalid_layout position_exceeds_length) ≡ whole
      unfolding read_position
      positions_long k = rw (← answer, e, le-ltb n.value len k) at (turn h)

      pub positions_next : n.value < len → (at < n.next.at)
          × (after (read_positions (count - (i + 1)) (place + (i + 1)) len (Some n.value) (drop n.next.at list)) ≡ whole)
      unfolding read_position
      positions_next k =
          let s : place + (i + 1) ≡ suc (place + i) = omega arith in (
            further list at n.next.at (value_shorter _ _ _ _ _ (sym answer ∙ ap (value_means list) e)),
            rw (s, ← after_more n.value) (rw (← answer, e, lt-ltb n.value len k) at (turn h)),
          )

  pub positions_end : count ≤ i → Ok (drop at list) ≡ whole
  unfolding read_positions
  positions_end h = rw (left_none count i h) at inv
