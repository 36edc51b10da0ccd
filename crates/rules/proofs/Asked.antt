-- What the tests ask of the positions: no other than those of the names asked, and one of each at least.
-- Assumes nothing.
use mathlib.Core.Path.{◌≡◌, refl, ap}
use mathlib.Core.Bool.{true, ◌&&◌}
use mathlib.Core.List.{List, [], ◌∷◌, map}
use mathlib.Core.Logic.{inl, inr}
use Prim.Native.Nat.{ℕ, suc, ◌+◌, ◌≤◌, ◌<◌}
use native.Mathlib.Omega.{arith}
use lib.Dec.{ltb, leb}
use lib.ListN.{length, get_or}
use Rattle.common.specs.Lists.{joined}
use Rattle.common.specs.Elements.{◌∈◌}
use Rattle.rules.specs.Words.{mentions, within}
use Rattle.rules.specs.Rules.{phrase_at, starts, not_empty, chain_from, ordered, unordered_at, unordered}
use Rattle.rules.specs.declared.rule.Rule.{Rule}
use Rattle.rules.specs.declared.rule.Rule.TheVariants.{Phrase, Ordered, Unordered}
use Rattle.rules.specs.Kinds.{meets}
use Rattle.common.proofs.Membership.{in_some, place_of}
use Rattle.common.proofs.Kept.{every_same, some_same, kept_same, map_same}
use Rattle.rules.proofs.Windows.{within_fewer, mentioned}
use Rattle.rules.proofs.RulesHold.{rules_agree}

-- ---- no other

module _ (f g : List ℕ → List ℕ) where
  abbrev Alike : List (List ℕ) → Type 0
  Alike ns = (n : List ℕ) → n ∈ ns → f n ≡ g n

  phrase_at_same : (start : ℕ) (ns : List (List ℕ)) → Alike ns → phrase_at start f ns ≡ phrase_at start g ns
  unfolding phrase_at
  phrase_at_same start [] h = refl
  phrase_at_same start (n ∷ ns) h = rw (h n (inl refl), phrase_at_same (suc start) ns (λ m k. h m (inr k)))

  pub starts_same : (ns : List (List ℕ)) → ((n : List ℕ) → n ∈ ns → f n ≡ g n) → starts f ns ≡ starts g ns
  unfolding starts
  starts_same [] h = refl
  starts_same (n ∷ ns) h =
      rw (h n (inl refl))
      (kept_same (λ p. phrase_at p f (n ∷ ns)) (λ p. phrase_at p g (n ∷ ns)) (g n) (λ p m. phrase_at_same p (n ∷ ns) h))

  chain_same : (previous last : ℕ) (ns : List (List ℕ)) → Alike ns → chain_from previous last f ns ≡ chain_from previous last g ns
  unfolding chain_from
  chain_same previous last [] h = refl
  chain_same previous last (n ∷ ns) h =
      rw (h n (inl refl))
      (some_same
      (λ p. ltb previous p && leb p last && chain_from p last f ns)
      (λ p. ltb previous p && leb p last && chain_from p last g ns)
      (g n)
      (λ p m. rw (chain_same p last ns (λ k j. h k (inr j)))))

  ordered_same : (w : ℕ) (ns : List (List ℕ)) → Alike ns → ordered w f ns ≡ ordered w g ns
  unfolding ordered
  ordered_same w [] h = refl
  ordered_same w (n ∷ ns) h =
      rw (h n (inl refl))
      (some_same (λ p. chain_from p (p + w) f ns) (λ p. chain_from p (p + w) g ns) (g n)
      (λ p m. chain_same p (p + w) ns (λ k j. h k (inr j))))

  unordered_same : (w : ℕ) (ns : List (List ℕ)) → Alike ns → unordered w f ns ≡ unordered w g ns
  unfolding unordered unordered_at
  unordered_same w ns h =
      rw (map_same f g ns h)
      (some_same (λ p. unordered_at p w f ns) (λ p. unordered_at p w g ns) (joined (map g ns))
      (λ p m.
      every_same (λ n. leb (mentions n ns) (within p w (f n))) (λ n. leb (mentions n ns) (within p w (g n))) ns (λ n k. rw (h n k))))

  pub meets_same : (rule : Rule) (ns : List (List ℕ)) → ((n : List ℕ) → n ∈ ns → f n ≡ g n) → meets rule f ns ≡ meets rule g ns
  meets_same Phrase ns h = ap not_empty (starts_same ns h)
  meets_same (Ordered w) ns h = ordered_same w ns h
  meets_same (Unordered w) ns h = unordered_same w ns h

-- ---- one of each

module _ (own : List ℕ → List ℕ) (ns : List (List ℕ)) (n : List ℕ) (asked : n ∈ ns) where
  in_each : (step : ℕ → ℕ) → ((i : ℕ) → i < length ns → step i ∈ own (get_or ns i [])) → 0 < length (own n)
  in_each step on =
      let (i, h, e) = place_of [] ns n asked in
      in_some (own n) (step i) (rw e at (on i h))

  -- a name that is mentioned twice has two positions, and so on
  pub needs_mentions : (w : ℕ) → meets (Unordered w) own ns ≡ true → mentions n ns ≤ length (own n)
  needs_mentions w t =
      let r = (rules_agree (Unordered w) own ns (in_some ns n asked)).0 t in
      omega (arith, r.holds n asked, within_fewer w (own n) r.start)

  pub needs_each : (rule : Rule) → meets rule own ns ≡ true → 0 < length (own n)
  needs_each Phrase t =
      let r = (rules_agree Phrase own ns (in_some ns n asked)).0 t in in_each (λ i. r.start + i) r.on
  needs_each (Ordered w) t =
      let r = (rules_agree (Ordered w) own ns (in_some ns n asked)).0 t in in_each r.step r.on
  needs_each (Unordered w) t = omega (arith, needs_mentions w t, mentioned ns n asked)
