-- Ordered near: the test is the rule in words.
-- Assumes nothing.
use mathlib.Core.Path.{◌≡◌, refl}
use mathlib.Core.Bool.{true, ◌&&◌}
use mathlib.Core.List.{List, [], ◌∷◌}
use mathlib.Core.Logic.{⊎_elim, ◌↔◌}
use Prim.Native.Nat.{ℕ, zero, suc, ◌+◌, ◌-◌, ◌≤◌, ◌<◌}
use native.Mathlib.Nat.{not-suc-le-zero, le_of_suc-le-suc}
use native.Mathlib.Omega.{arith}
use lib.Dec.{ltb, leb}
use lib.ListN.{length, get_or}
use borrow.Author.Tests.{ltb-true, lt-ltb, leb-true, le-leb}
use Rattle.common.proofs.Loops.{lt_or_ge, and_left, and_right}
use Rattle.common.specs.Elements.{◌∈◌}
use Rattle.rules.specs.Words.{HasOrdered}
use Rattle.rules.specs.Rules.{chain_from, ordered}
use Rattle.common.proofs.Membership.{some_gives, some_from}

-- steps 1, 2, .. of the names rise from step 0 on, and none is above the last allowed
pub record Chain (last : ℕ) (own : List ℕ → List ℕ) (ns : List (List ℕ)) (step : ℕ → ℕ) : Type 0 where
  pub on : (i : ℕ) → i < length ns → step (suc i) ∈ own (get_or ns i [])
  pub rising : (i : ℕ) → i < length ns → step i < step (suc i)
  pub low : (i : ℕ) → i < length ns → step (suc i) ≤ last

-- one step before the others
abbrev pushed : ℕ → (ℕ → ℕ) → ℕ → ℕ
pushed p step zero = p
pushed p step (suc i) = step i

module _ (last : ℕ) (own : List ℕ → List ℕ) where
  abbrev Chained : ℕ → List (List ℕ) → Type 0
  Chained previous ns = (step : ℕ → ℕ) × (step 0 ≡ previous) × Chain last own ns step

  longer : (previous p : ℕ) (n : List ℕ) (ns : List (List ℕ)) → p ∈ own n → previous < p → p ≤ last → Chained p ns
      → Chained previous (n ∷ ns)
  longer previous p n ns m up top (step, e, c) = (pushed previous step, refl, record { on = on; rising = rising; low = low })
    where
      on : (i : ℕ) → i < length (n ∷ ns) → step i ∈ own (get_or (n ∷ ns) i [])
      on zero h = rw e m
      on (suc i) h = c.on i (le_of_suc-le-suc h)

      rising : (i : ℕ) → i < length (n ∷ ns) → pushed previous step i < step i
      rising zero h = rw e up
      rising (suc i) h = c.rising i (le_of_suc-le-suc h)

      low : (i : ℕ) → i < length (n ∷ ns) → step i ≤ last
      low zero h = rw e top
      low (suc i) h = c.low i (le_of_suc-le-suc h)

  chained : (previous : ℕ) (ns : List (List ℕ)) → chain_from previous last own ns ≡ true → Chained previous ns
  unfolding chain_from
  chained previous [] t = (
    λ i. previous,
    refl,
    record {
      on = λ i h. absurd (not-suc-le-zero h);
      rising = λ i h. absurd (not-suc-le-zero h);
      low = λ i h. absurd
          (not-suc-le-zero h);
    },
  )
  chained previous (n ∷ ns) t =
      let (p, m, u) = some_gives (λ p. ltb previous p && leb p last && chain_from p last own ns) (own n) t in
      let both = and_left (ltb previous p && leb p last) (chain_from p last own ns) u in
      longer previous p n ns m
      (ltb-true previous p (and_left (ltb previous p) (leb p last) both))
      (leb-true p last (and_right (ltb previous p) (leb p last) both))
      (chained p ns (and_right (ltb previous p && leb p last) (chain_from p last own ns) u))

  passes : (step : ℕ → ℕ) (ns : List (List ℕ)) → Chain last own ns step → chain_from (step 0) last own ns ≡ true
  unfolding chain_from
  passes step [] c = refl
  passes step (n ∷ ns) c =
      some_from (λ p. ltb (step 0) p && leb p last && chain_from p last own ns) (own n) (step 1) (c.on 0 (omega arith))
      (rw (lt-ltb (step 0) (step 1) (c.rising 0 (omega arith)), le-leb (step 1) last (c.low 0 (omega arith)))
      (passes (λ i. step (suc i)) ns (record {
        on = λ i h. c.on (suc i) (omega arith);
        rising = λ i h. c.rising (suc i) (omega arith);
        low = λ i h. c.low (suc i) (omega arith);
      })))

  pub chain_is : (previous : ℕ) (ns : List (List ℕ))
      → (chain_from previous last own ns ≡ true) ↔ ((step : ℕ → ℕ) × (step 0 ≡ previous) × Chain last own ns step)
  chain_is previous ns = (chained previous ns, λ (step, e, c). rw (← e) (passes step ns c))

-- what rises up to place n is greatest there
top : (step : ℕ → ℕ) (n : ℕ) → ((i : ℕ) → i < n → step i < step (suc i)) → (i : ℕ) → i ≤ n → step i ≤ step n
top step zero up i h = let e : i ≡ 0 = omega arith in rw e (omega arith)
top step (suc n) up i h =
    ⊎_elim
    (λ (l : i < suc n). omega (arith, top step n (λ k g. up k (omega arith)) i (omega arith), up n (omega arith)))
    (λ (l : suc n ≤ i). let e : i ≡ suc n = omega arith in rw e (omega arith))
    (lt_or_ge i (suc n))

last_place : (k : ℕ) → suc k - 1 ≡ k
last_place k = omega arith

module _ (w : ℕ) (own : List ℕ → List ℕ) (n : List ℕ) (ns : List (List ℕ)) where
  in_words : (p : ℕ) → p ∈ own n → Chained (p + w) own p ns → HasOrdered w own (n ∷ ns)
  in_words p m (step, e, c) =
      record { step = step; on = on; rising = λ i h. c.rising i (le_of_suc-le-suc h); near = rw last_place (near (length ns) refl) }
    where
      on : (i : ℕ) → i < length (n ∷ ns) → step i ∈ own (get_or (n ∷ ns) i [])
      on zero h = rw e m
      on (suc i) h = c.on i (le_of_suc-le-suc h)

      near : (k : ℕ) → length ns ≡ k → step k - step 0 ≤ w
      near zero z = omega arith
      near (suc k) z = omega (arith, c.low k (omega arith))

  from_words : (r : HasOrdered w own (n ∷ ns)) → Chain (r.step 0 + w) own ns r.step
  from_words r =
      let near : r.step (length ns) - r.step 0 ≤ w = rw last_place at r.near in
      let up : (i : ℕ) → i < length ns → r.step i < r.step (suc i) = λ i h. r.rising i (omega arith) in
      record { on = λ i h. r.on (suc i) (omega arith); rising = up; low = λ i h. omega (arith, top r.step (length ns) up (suc i) h) }

module _ (w : ℕ) (own : List ℕ → List ℕ) where
  pub ordered_is : (ns : List (List ℕ)) → 0 < length ns → (ordered w own ns ≡ true) ↔ HasOrdered w own ns
  unfolding ordered
  ordered_is [] h = absurd (not-suc-le-zero h)
  ordered_is (n ∷ ns) h = (
    λ t.
        let (p, m, u) = some_gives (λ first. chain_from first (first + w) own ns) (own n) t in
        in_words w own n ns p m (chained (p + w) own p ns u),
    λ r.
        some_from (λ first. chain_from first (first + w) own ns) (own n) (r.step 0) (r.on 0 (omega arith))
        (passes (r.step 0 + w) own r.step ns (from_words w own n ns r)),
  )
