-- In one document: what the rules' code finds from the cursors is the test over the own positions, or the number of the phrase's starts.
-- Assumes nothing.
use Prim.Native.Nat.{ℕ, ◌+◌, ◌≤◌, ◌<◌}
use mathlib.Core.Path.{◌≡◌, refl, sym, ◌∙◌}
use mathlib.Core.Bool.{Bool, true, false}
use mathlib.Core.List.{List, []}
use mathlib.Core.Logic.{◌↔◌}
use native.Mathlib.Omega.{arith}
use lib.ListN.{length, get_or}
use Rattle.read_cursors.specs.declared.positions.Positions.{Positions}
use Rattle.read_cursors.specs.declared.postings.Postings.{Postings}
use Rattle.ask_match.specs.Steps as fits
use Rattle.ask_match.proofs.Bridges.{found_told, chained_told}
use Rattle.ask_match.proofs.Members.{from_rising}
use Rattle.common.specs.Elements.{◌∈◌, Rising}
use Rattle.rules.specs.Words.{mentions, within}
use Rattle.rules.specs.Rules.{starts, starts_count}
use Rattle.rules.specs.declared.rule.Rule.{Rule}
use Rattle.rules.specs.declared.rule.Rule.TheVariants.{Phrase, Ordered, Unordered}
use Rattle.rules.specs.Kinds.{meets, Meets}
use Rattle.ask_names.specs.Steps.{Numbered}
use Rattle.ask_walk.specs.Steps.{CursorsOpened, positions_under}
use Rattle.common.proofs.Membership.{place_of, at_place}
use Rattle.rules.proofs.RulesHold.{rules_agree}
use Rattle.rules.proofs.Starts.{starts_are, starts_rise}

-- two tests that say the same
alike : (a b : Bool) {W U : Type 0} → (a ≡ true) ↔ W → (b ≡ true) ↔ U → (W → U) → (U → W) → a ≡ b
alike true b is are f g = sym (are.1 (f (is.0 refl)))
alike false true is are f g = is.1 (g (are.0 refl))
alike false false is are f g = refl

module _ (bytes : List ℕ) (n : ℕ) (slot : List ℕ) (at : ℕ → Postings) (cs : ℕ → Positions) (own : List ℕ → List ℕ) (ns : List (List ℕ))
    (stand : (i : ℕ) → i < n → own (get_or ns i []) ≡ positions_under bytes (at (get_or slot i 0))) where
  -- a cursor for each name
  module _ (opened : CursorsOpened bytes n (λ i. get_or slot i 0) at cs) where
    lists_are : (i : ℕ) → i < n → fits.at_place bytes cs i ≡ own (get_or ns i [])
    lists_are i h = opened.each i h ∙ sym (stand i h)

    on_own : (i p : ℕ) → i < n → p ∈ fits.at_place bytes cs i → p ∈ own (get_or ns i [])
    on_own i p h k = rw (lists_are i h) at k

    on_list : (i p : ℕ) → i < n → p ∈ own (get_or ns i []) → p ∈ fits.at_place bytes cs i
    on_list i p h k = rw (lists_are i h) k

    first_rises : 0 < n → Rising (own (get_or ns 0 []))
    first_rises some = rw (← lists_are 0 some) (from_rising bytes (cs 0))

    pub starts_told : length ns ≡ n → 0 < n → {r : ℕ} → fits.FoundSoOften n (fits.stands bytes cs) r → r ≡ starts_count own ns
    starts_told taken some f =
        f.number (starts own ns) (starts_rise own ns (first_rises some))
        (λ start. (
          λ m j h. on_list j (start + j) h (((starts_are own ns start).0 m).1 j (omega arith)),
          λ on. (starts_are own ns start).1 (omega arith, λ i h. let k : i < n = omega arith in on_own i (start + i) k (on i k)),
        ))

  module _ (m : ℕ) (wanted : List ℕ) (u : Numbered n slot m wanted ns) (some : 0 < n) where
    agree : (rule : Rule) → (meets rule own ns ≡ true) ↔ Meets rule own ns
    agree rule = rules_agree rule own ns (omega (arith, u.taken))

    module _ (opened : CursorsOpened bytes n (λ i. get_or slot i 0) at cs) where
      pub phrase_told : {r : Bool} → fits.Found n (fits.stands bytes cs) r → r ≡ meets Phrase own ns
      phrase_told {r} f =
          alike r (meets Phrase own ns) (found_told f) (agree Phrase)
          (λ (start, on). record {
            start = start;
            on = λ i h. let k : i < n = omega (arith, u.taken) in on_own opened i (start + i) k (on i k);
          })
          (λ w. (w.start, λ i h. on_list opened i (w.start + i) h (w.on i (omega (arith, u.taken)))))

      pub ordered_told : (window : ℕ) {r : Bool} → fits.Chained n window (fits.among bytes cs) r → r ≡ meets (Ordered window) own ns
      ordered_told window {r} f =
          alike r (meets (Ordered window) own ns) (chained_told some f) (agree (Ordered window))
          (λ (step, on, up, near). record {
            step = step;
            on = λ i h. let k : i < n = omega (arith, u.taken) in on_own opened i (step i) k (on i k);
            rising = λ i h. up i (omega (arith, u.taken));
            near = rw u.taken near;
          })
          (λ w. (
            w.step,
            λ i h. on_list opened i (w.step i) h (w.on i (omega (arith, u.taken))),
            λ i h. w.rising i (omega (arith, u.taken)),
            rw u.taken at w.near,
          ))

    -- a cursor for each term
    module _ (opened : CursorsOpened bytes m (λ k. k) at cs) (window : ℕ) where
      -- under a name's index are the name's own count and the name's own list
      counts : (start i : ℕ) → i < n
          → (get_or wanted (get_or slot i 0) 0 ≤ within start window (fits.at_place bytes cs (get_or slot i 0)))
          ≡ (mentions (get_or ns i []) ns ≤ within start window (own (get_or ns i [])))
      counts start i h =
          let k = u.below i h in
          rw (u.counted i h, opened.each (get_or slot i 0) k ∙ sym (stand i h))

      pub unordered_told : {r : Bool} → fits.Found m (fits.shows bytes window wanted cs) r → r ≡ meets (Unordered window) own ns
      unordered_told {r} f =
          alike r (meets (Unordered window) own ns) (found_told f) (agree (Unordered window))
          (λ (start, holds). record {
            start = start;
            holds = λ x a.
                let (i, h, e) = place_of [] ns x a in
                let l : i < n = omega (arith, u.taken) in
                rw e at (rw (counts start i l) at (holds (get_or slot i 0) (u.below i l)));
          })
          (λ w. (
            w.start,
            λ k h.
                let (i, l, e) = u.each k h in
                rw (← e, counts w.start i l) (w.holds (get_or ns i []) (at_place [] ns i (omega (arith, u.taken)))),
          ))
