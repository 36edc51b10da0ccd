-- Unordered near: the test is the rule in words, and a start on a position of one of the names is enough.
-- Assumes nothing.
use mathlib.Core.Path.{◌≡◌, refl}
use mathlib.Core.Bool.{Bool, true, ◌&&◌}
use mathlib.Core.List.{List, [], ◌∷◌, map}
use mathlib.Core.Logic.{inl, inr, ⊎_elim, ◌↔◌}
use Prim.Native.Nat.{ℕ, ◌+◌, ◌≤◌, ◌<◌}
use native.Mathlib.Omega.{arith}
use lib.Dec.{leb}
use lib.ListN.{length}
use borrow.Author.Tests.{leb-true, le-leb}
use Rattle.common.proofs.Loops.{lt_or_ge, and_left, and_right}
use Rattle.segment.specs.Names.{same}
use Rattle.common.specs.Members.{kept}
use Rattle.common.specs.Lists.{joined}
use Rattle.common.specs.Elements.{◌∈◌}
use Rattle.rules.specs.Words.{mentions, within, HasUnordered}
use Rattle.rules.specs.Rules.{unordered_at, unordered}
use Rattle.segment.proofs.Strings.{same_refl}
use Rattle.common.proofs.Membership.{some_in, in_some, every_gives, every_from, some_gives, some_from, kept_gives, kept_from, joined_gives}
use Rattle.common.proofs.Membership.{joined_from, map_gives}
use Rattle.common.proofs.Elements.{map_from}
use Rattle.common.proofs.Kept.{kept_more, kept_fewer}

-- ---- how many positions lie on the steps from a start on

abbrev inside : (start w : ℕ) → ℕ → Bool
inside start w p = leb start p && leb p (start + w)

inside_is : (start w p : ℕ) → (inside start w p ≡ true) ↔ ((start ≤ p) × (p ≤ start + w))
inside_is start w p = (
  λ t. (
    leb-true start p (and_left (leb start p) (leb p (start + w)) t),
    leb-true p (start + w)
        (and_right (leb start p) (leb p (start + w)) t),
  ),
  λ h. rw (le-leb start p h.0, le-leb p (start + w) h.1),
)

module _ (w : ℕ) (positions : List ℕ) where
  pub within_fewer : (start : ℕ) → within start w positions ≤ length positions
  unfolding within
  within_fewer start = kept_fewer (inside start w) positions

  -- a later start that loses no position has as many
  pub within_grows : (a b : ℕ) → a ≤ b → ((p : ℕ) → p ∈ positions → a ≤ p → b ≤ p) → within a w positions ≤ within b w positions
  unfolding within
  within_grows a b l h =
      kept_more (inside a w) (inside b w) positions
      (λ p m t. let (low, high) = (inside_is a w p).0 t in (inside_is b w p).1 (h p m low, omega arith))

  -- a later start that wins no position has no more
  pub within_falls : (a b : ℕ) → a ≤ b → ((p : ℕ) → p ∈ positions → p ≤ b + w → p ≤ a + w) → within b w positions ≤ within a w positions
  unfolding within
  within_falls a b l h =
      kept_more (inside b w) (inside a w) positions
      (λ p m t. let (low, high) = (inside_is b w p).0 t in (inside_is a w p).1 (omega arith, h p m high))

  -- where some lie there, one is from the start on
  pub within_some : (start : ℕ) → 0 < within start w positions → (p : ℕ) × (p ∈ positions) × (start ≤ p) × (p ≤ start + w)
  unfolding within
  within_some start h =
      let (p, m) = some_in (kept (inside start w) positions) h in
      let (k, t) = kept_gives (inside start w) positions p m in
      let (low, high) = (inside_is start w p).0 t in
      (p, k, low, high)

-- a name that is asked is mentioned
pub mentioned : (ns : List (List ℕ)) (n : List ℕ) → n ∈ ns → 0 < mentions n ns
unfolding mentions
mentioned ns n m = in_some (kept (same n) ns) n (kept_from (same n) ns n m (same_refl n))

-- ---- the least of a list

record Least (xs : List ℕ) : Type 0 where
  value : ℕ
  stands : value ∈ xs
  low : (x : ℕ) → x ∈ xs → value ≤ x

least_of : (x : ℕ) (xs : List ℕ) → Least (x ∷ xs)
least_of x [] = record { value = x; stands = inl refl; low = λ y m. ⊎_elim (λ e. omega arith) absurd m }
least_of x (y ∷ ys) = step (least_of y ys)
  where
    step : Least (y ∷ ys) → Least (x ∷ (y ∷ ys))
    step l =
        ⊎_elim
        (λ (h : x < l.value).
        record { value = x; stands = inl refl; low = λ z m. ⊎_elim (λ e. omega arith) (λ k. omega (arith, l.low z k)) m })
        (λ (h : l.value ≤ x).
        record { value = l.value; stands = inr l.stands; low = λ z m. ⊎_elim (λ e. omega arith) (l.low z) m })
        (lt_or_ge x l.value)

least : (xs : List ℕ) (x : ℕ) → x ∈ xs → Least xs
least [] x m = absurd m
least (y ∷ ys) x m = least_of y ys

-- ---- the rule

-- the steps from start on hold each name as often as it is mentioned
abbrev pub HoldsFrom : (start w : ℕ) (own : List ℕ → List ℕ) → List (List ℕ) → Type 0
HoldsFrom start w own ns = (n : List ℕ) → n ∈ ns → mentions n ns ≤ within start w (own n)

-- a position of one of the names
pub record PositionOf (own : List ℕ → List ℕ) (ns : List (List ℕ)) (p : ℕ) : Type 0 where
  pub name : List ℕ
  pub asked : name ∈ ns
  pub on : p ∈ own name

module _ (own : List ℕ → List ℕ) (ns : List (List ℕ)) where
  pub all_positions_are : (p : ℕ) → (p ∈ joined (map own ns)) ↔ PositionOf own ns p
  all_positions_are p = (
    λ m.
        let (xs, k, j) = joined_gives (map own ns) p m in
        let (n, a, e) = map_gives own ns xs k in
        record { name = n; asked = a; on = rw e at j },
    λ r. joined_from (map own ns) (own r.name) p (map_from own ns r.name r.asked) r.on,
  )

  module _ (w : ℕ) where
    pub unordered_at_is : (start : ℕ) → (unordered_at start w own ns ≡ true) ↔ HoldsFrom start w own ns
    unfolding unordered_at
    unordered_at_is start = (
      λ t n m. leb-true (mentions n ns) (within start w (own n)) (every_gives (λ n. leb (mentions n ns) (within start w (own n))) ns t n m),
      λ h. every_from (λ n. leb (mentions n ns) (within start w (own n))) ns
          (λ n m. le-leb (mentions n ns) (within start w (own n)) (h n m)),
    )

    -- a start that holds the names may be moved on to the next position
    pub start_moves : (start : ℕ) → 0 < length ns → HoldsFrom start w own ns
        → (p : ℕ) × (start ≤ p) × PositionOf own ns p × HoldsFrom p w own ns
    start_moves start h holds =
        let (n, a) = some_in ns h in
        let (p, m, low, high) = within_some w (own n) start (omega (arith, holds n a, mentioned ns n a)) in
        moved (least later p (from_start n p a m low))
      where
        later : List ℕ
        later = kept (leb start) (joined (map own ns))

        from_start : (n : List ℕ) (p : ℕ) → n ∈ ns → p ∈ own n → start ≤ p → p ∈ later
        from_start n p a m low =
            kept_from (leb start) (joined (map own ns)) p
            ((all_positions_are p).1 (record { name = n; asked = a; on = m }))
            (le-leb start p low)

        moved : Least later → (p : ℕ) × (start ≤ p) × PositionOf own ns p × HoldsFrom p w own ns
        moved l =
            let (k, t) = kept_gives (leb start) (joined (map own ns)) l.value l.stands in
            let low = leb-true start l.value t in (
              l.value,
              low,
              (all_positions_are l.value).0 k,
              λ n a. omega (arith, holds n a, within_grows w (own n) start l.value low (λ p m g. l.low p (from_start n p a m g))),
            )

    -- some start in ℕ does where some position does
    pub position_is_enough : 0 < length ns
        → ((start : ℕ) × HoldsFrom start w own ns) ↔ ((p : ℕ) × PositionOf own ns p × HoldsFrom p w own ns)
    position_is_enough h = (
      λ (start, holds). let (p, low, on, moved) = start_moves start h holds in (p, on, moved),
      λ (p, on, holds). (p, holds),
    )

    pub unordered_is : 0 < length ns → (unordered w own ns ≡ true) ↔ HasUnordered w own ns
    unfolding unordered
    unordered_is h = (
      λ t.
          let (start, m, u) = some_gives (λ start. unordered_at start w own ns) (joined (map own ns)) t in
          record { start = start; holds = (unordered_at_is start).0 u },
      λ r.
          let (p, low, on, holds) = start_moves r.start h r.holds in
          some_from (λ start. unordered_at start w own ns) (joined (map own ns)) p ((all_positions_are p).1 on) ((unordered_at_is p).1 holds),
    )
