-- What the bytes hold from an offset on is what a cursor that enters there shows.
-- Assumes nothing.
use Rattle.std.specs.Prelude.{Err, None, Ok, Option, Some}
use Prim.Native.Nat.{ℕ, zero, suc, ◌-◌, ◌^◌}
use mathlib.Core.Path.{◌≡◌, refl, sym, ap, ◌∙◌}
use mathlib.Core.List.{List, []}
use native.Mathlib.Omega.{arith}
use lib.Dec.{ltb}
use lib.ListN.{drop}
use Rattle.leb128.specs.Leb128.{stored}
use Rattle.leb128.specs.Promise.{decoded_at}
use Rattle.leb128.specs.declared.varint.Number.{Number}
use Rattle.segment.specs.declared.refusal.Refusal.{Refusal}
use Rattle.segment.specs.Refusals.{postings}
use Rattle.segment.specs.Results.{Answer, check}
use Rattle.segment.specs.Records.{Read, number, at_gap, rises}
use Rattle.segment.specs.Postings.{read_value}
use Rattle.read_cursors.specs.Held.{skipped, rest_of, PostingAt, value_at, posting_here, held_postings, held_positions}
use Rattle.segment.proofs.Binds.{carried, carried_ok, carried_bind, carried_check}
use Rattle.read_cursors.proofs.Gaps.{number_refused, number_value, carried_number}
use Rattle.read_cursors.specs.Steps.{postings_at, positions_at}
use Rattle.read_cursors.proofs.Seeks.{Ahead, none, one}

carried_none : (r : Answer (Read ℕ)) → carried r ≡ None → (x : Refusal) × (r ≡ Err x)
carried_none (Ok v) e = let z : ◌≡◌ {A = ℕ} 0 1 = cc in absurd (omega arith)
carried_none (Err x) e = (x, refl)

-- what a value's refusals would be shows only in them
module _ (over order over' order' : Refusal) (index index' : ℕ) (previous : Option ℕ) (bytes : List ℕ) where
  any_refusal : carried (read_value over order index previous bytes) ≡ carried (read_value over' order' index' previous bytes)
  unfolding read_value
  any_refusal =
      carried_bind (number postings index bytes) (number postings index' bytes) _ _
      (carried_number postings index index' bytes (stored bytes))
      (λ g.
      let t = ltb (at_gap previous g.got) (2 ^ 32) in
      let u = rises previous (at_gap previous g.got) in
      carried_bind (check t over) (check t over') _ _ (carried_check t over over')
      (λ _. carried_bind (check u order) (check u order') _ _ (carried_check u order order') (λ _. refl)))

  pub value_ok : {v : Read ℕ} → read_value over order index previous bytes ≡ Ok v → read_value over' order' index' previous bytes ≡ Ok v
  value_ok e = carried_ok _ (sym any_refusal ∙ ap carried e)

  pub value_refused : {x : Refusal} → read_value over order index previous bytes ≡ Err x
      → (y : Refusal) × (read_value over' order' index' previous bytes ≡ Err y)
  value_refused e = carried_none _ (sym any_refusal ∙ ap carried e)

-- a number that the code read, and the bytes past it
abbrev pub read_to : Number → List ℕ → Read ℕ
read_to n s = record { got = n.value; rest = drop n.next.at s }

-- ---- positions

module _ (s : List ℕ) where
  pub positions_ahead : (remaining at pos : ℕ) → Ahead (λ (p : ℕ). p) pos remaining (positions_at remaining at pos s)
  unfolding positions_at
  positions_ahead zero at pos = none
  positions_ahead (suc n) at pos = one refl

  no_positions : (a p : ℕ) → positions_at 0 a p s ≡ []
  unfolding positions_at
  no_positions a p = refl

  module _ (at : ℕ) (previous : Option ℕ) where
    pub positions_end : (remaining a p : ℕ) → remaining ≡ 0 → positions_at 0 a p s ≡ held_positions remaining previous (drop at s)
    unfolding held_positions
    positions_end remaining a p e = rw e (no_positions a p)

    pub positions_refused : {x : Refusal} (remaining a p : ℕ) → value_at previous (drop at s) ≡ Err x
        → positions_at 0 a p s ≡ held_positions remaining previous (drop at s)
    unfolding held_positions
    positions_refused zero a p e = no_positions a p
    positions_refused (suc n) a p e = no_positions a p ∙ rw e

    pub positions_next : (remaining : ℕ) (v : Number) → value_at previous (drop at s) ≡ Ok (read_to v s)
        → positions_at remaining v.next.at v.value s ≡ held_positions remaining previous (drop at s)
    unfolding positions_at held_positions
    positions_next zero v e = refl
    positions_next (suc n) v e = rw e

  pub positions_past : (remaining at pos : ℕ) → (remaining ≡ 0 → ⊥)
      → held_positions (remaining - 1) (Some pos) (drop at s) ≡ rest_of (positions_at remaining at pos s)
  unfolding positions_at
  positions_past zero at pos h = absurd (h refl)
  positions_past (suc n) at pos h = let e : suc n - 1 ≡ n = omega arith in rw e

-- ---- postings

module _ (s : List ℕ) where
  pub postings_ahead : (remaining at count doc : ℕ)
      → Ahead (λ (x : PostingAt). x.doc) doc remaining (postings_at remaining at count doc s)
  unfolding postings_at
  postings_ahead zero at count doc = none
  postings_ahead (suc n) at count doc = one refl

  no_postings : (a k d : ℕ) → postings_at 0 a k d s ≡ []
  unfolding postings_at
  no_postings a k d = refl

  module _ (at : ℕ) (previous : Option ℕ) where
    pub postings_end : (remaining a k d : ℕ) → remaining ≡ 0 → postings_at 0 a k d s ≡ held_postings remaining previous (drop at s)
    unfolding held_postings
    postings_end remaining a k d e = rw e (no_postings a k d)

    pub postings_refused : {x : Refusal} (remaining a k d : ℕ) → value_at previous (drop at s) ≡ Err x
        → postings_at 0 a k d s ≡ held_postings remaining previous (drop at s)
    unfolding held_postings posting_here
    postings_refused zero a k d e = no_postings a k d
    postings_refused (suc n) a k d e = no_postings a k d ∙ rw e

    module _ (v : Number) (e : value_at previous (drop at s) ≡ Ok (read_to v s)) where
      pub postings_half : (remaining a k d : ℕ) → decoded_at s v.next.at ≡ None
          → postings_at 0 a k d s ≡ held_postings remaining previous (drop at s)
      unfolding held_postings posting_here
      postings_half zero a k d f = no_postings a k d
      postings_half (suc n) a k d f = no_postings a k d ∙ rw (e, number_refused s v.next.at postings 0 f)

      pub postings_next : (remaining : ℕ) {n : Number} → decoded_at s v.next.at ≡ Some n
          → postings_at remaining n.next.at n.value v.value s ≡ held_postings remaining previous (drop at s)
      unfolding postings_at held_postings posting_here
      postings_next zero f = refl
      postings_next (suc n) f = rw (e, number_value s v.next.at postings 0 f)

  pub postings_past : (remaining at count doc : ℕ) → (remaining ≡ 0 → ⊥)
      → held_postings (remaining - 1) (Some doc) (skipped count (drop at s)) ≡ rest_of (postings_at remaining at count doc s)
  unfolding postings_at
  postings_past zero at count doc h = absurd (h refl)
  postings_past (suc n) at count doc h = let e : suc n - 1 ≡ n = omega arith in rw e
