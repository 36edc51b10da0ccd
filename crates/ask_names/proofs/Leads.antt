-- Terms 0 and b change numbers.
-- Assumes nothing.
use mathlib.Core.Path.{◌≡◌, refl, sym, ap, ◌∙◌}
use mathlib.Core.List.{List, ◌++◌}
use mathlib.Core.Logic.{◌⊎◌, inl, inr}
use Prim.Native.Nat.{ℕ, ◌+◌, ◌≤◌, ◌<◌}
use native.Mathlib.Omega.{arith}
use Rattle.std.proofs.Math.ListN.{get_or-append}
use Rattle.std.proofs.lemmas.List.{ext_get_or, get_or-take}
use Rattle.std.specs.List.{SwappedAt}
use lib.ListN.{length, get_or, set, take, drop, length-append, length-drop}
use lib.Seq.{get_or-set_other}
use borrow.Author.Tests.{eq-eqb, ne_eqb}
use Rattle.common.proofs.OneMore.{equal_or_not, each_set}
use Rattle.ask_names.specs.Steps.{InSlots, Numbered}
use Rattle.ask_names.specs.Lists.{swap, Swapped, Renamed, Led}
use Rattle.ask_names.specs.declared.slots.Names.{Names}

-- ---- the new number of a term

pub swap_first : (b k : ℕ) → k ≡ 0 → b ≡ swap b k
swap_first b k e = rw (eq-eqb k 0 e)

pub swap_other : (b k : ℕ) → (k ≡ 0 → ⊥) → k ≡ b → 0 ≡ swap b k
swap_other b k not e = rw (ne_eqb k 0 not, eq-eqb k b e)

pub swap_stays : (b k : ℕ) → (k ≡ 0 → ⊥) → (k ≡ b → ⊥) → k ≡ swap b k
swap_stays b k not else = rw (ne_eqb k 0 not, ne_eqb k b else)

-- twice is as before
pub swap_twice : (b k : ℕ) → swap b (swap b k) ≡ k
swap_twice b k = step (equal_or_not k 0) (equal_or_not k b)
  where
    step : (k ≡ 0) ⊎ (k ≡ 0 → ⊥) → (k ≡ b) ⊎ (k ≡ b → ⊥) → swap b (swap b k) ≡ k
    step (inl e) (inl f) = rw (← swap_first b k e) (sym (swap_first b b (sym f ∙ e)) ∙ sym f)
    step (inl e) (inr f) =
        rw (← swap_first b k e) (sym (swap_other b b (λ z. f (e ∙ sym z)) refl) ∙ sym e)
    step (inr e) (inl f) = rw (← swap_other b k e f) (sym (swap_first b 0 refl) ∙ sym f)
    step (inr e) (inr f) = rw (← swap_stays b k e f) (sym (swap_stays b k e f))

pub swap_below : (b k m : ℕ) → b < m → k < m → swap b k < m
swap_below b k m h g = step (equal_or_not k 0) (equal_or_not k b)
  where
    step : (k ≡ 0) ⊎ (k ≡ 0 → ⊥) → (k ≡ b) ⊎ (k ≡ b → ⊥) → swap b k < m
    step (inl e) f = rw (← swap_first b k e) h
    step (inr e) (inl f) = rw (← swap_other b k e f) (omega arith)
    step (inr e) (inr f) = rw (← swap_stays b k e f) g

-- ---- what each term has, after two elements changed places

pub swapped_at : {A : Type 0} (d : A) (xs ys : List A) (b : ℕ) → SwappedAt xs ys 0 b → Swapped d b xs ys
swapped_at d xs ys b s k = step (equal_or_not k 0) (equal_or_not k b)
  where
    step : (k ≡ 0) ⊎ (k ≡ 0 → ⊥) → (k ≡ b) ⊎ (k ≡ b → ⊥) → get_or ys k d ≡ get_or xs (swap b k) d
    step (inl e) f = rw (← swap_first b k e, e) (s.0 d)
    step (inr e) (inl f) = rw (← swap_other b k e f, f) (s.1 d)
    step (inr e) (inr f) = rw (← swap_stays b k e f) (s.2 k d e f)

-- changed twice, each term has what it had
pub swapped_back : {A : Type 0} (d : A) (xs ys zs : List A) (b : ℕ) → Swapped d b xs ys → SwappedAt ys zs 0 b → length zs ≡ length xs
    → zs ≡ xs
swapped_back d xs ys zs b s t long =
    ext_get_or d zs xs long (λ k h. swapped_at d ys zs b t k ∙ s (swap b k) ∙ ap (λ j. get_or xs j d) (swap_twice b k))

-- ---- the names, one after the other

-- those before i have their new numbers, the others their old ones
pub record Turned (b : ℕ) (slot slot' : List ℕ) (i : ℕ) : Type 0 where
  pub new : (j : ℕ) → j < i → get_or slot' j 0 ≡ swap b (get_or slot j 0)
  pub old : (j : ℕ) → i ≤ j → get_or slot' j 0 ≡ get_or slot j 0

pub turned_none : (b : ℕ) (slot : List ℕ) → Turned b slot slot 0
turned_none b slot = record { new = λ j h. absurd (omega arith); old = λ j h. refl }

pub turned_more : (b : ℕ) (slot slot' : List ℕ) (i x : ℕ) → Turned b slot slot' i → i < length slot' → x ≡ swap b (get_or slot' i 0)
    → Turned b slot (set slot' i x) (i + 1)
turned_more b slot slot' i x t h e = record {
  new = each_set 0 slot' i x (λ j y. y ≡ swap b (get_or slot j 0)) h t.new (rw (← t.old i (omega arith)) e);
  old = λ j g. get_or-set_other slot' i j x 0 (λ q. omega arith) ∙ t.old j (omega arith);
}

-- the first n of the numbers, all turned, and those that follow
pub turned_all : (n b : ℕ) (slot front : List ℕ) (i : ℕ) → Turned b (take n slot) front i → n ≤ i → length front ≡ n → n ≤ 128
    → length slot ≡ 128 → Renamed n b slot (front ++ drop n slot)
turned_all n b slot front i t all h few long = record {
  long = omega (arith, length-append front (drop n slot), length-drop n slot);
  each = λ j g. get_or-append front (drop n slot) 0 j (omega arith) ∙ t.new j (omega arith) ∙ ap (swap b) (get_or-take n slot j 0 g);
}

-- ---- what the new numbers are good for

module _ {s t : Names} (led : Led s t) where
  below_led : (k : ℕ) → k < s.different → swap led.b k < s.different
  below_led k h = swap_below led.b k s.different led.is_term h

  pub led_slots : InSlots s.taken s.slot → s.different ≤ 128 → ((i : ℕ) → i < s.taken → get_or s.slot i 0 < s.different)
      → InSlots t.taken t.slot
  led_slots p few below =
      rw led.taken
      (record {
        few = p.few;
        long = led.names.long;
        inside = λ i h. rw (led.names.each i h) (omega (arith, below_led (get_or s.slot i 0) (below i h)));
      })

  pub led_numbers : {ns : List (List ℕ)} → Numbered s.taken s.slot s.different s.wanted ns
      → Numbered t.taken t.slot t.different t.wanted ns
  led_numbers q =
      rw (led.taken, led.different)
      (record {
        taken = q.taken;
        below = λ i h. rw (led.names.each i h) (below_led (get_or s.slot i 0) (q.below i h));
        alike = λ i j g h. (
          λ e. (q.alike i j g h).0
              (sym (swap_twice led.b (get_or s.slot i 0)) ∙ ap (swap led.b) (sym (led.names.each i g) ∙ e ∙ led.names.each j h)
              ∙ swap_twice led.b (get_or s.slot j 0)),
          λ e. led.names.each i g ∙ ap (swap led.b) ((q.alike i j g h).1 e) ∙ sym (led.names.each j h),
        );
        each = λ k h.
            let (i, g, e) = q.each (swap led.b k) (below_led k h) in
            (i, g, led.names.each i g ∙ ap (swap led.b) e ∙ swap_twice led.b k);
        counted = λ i h.
            rw (led.names.each i h, led.counts (swap led.b (get_or s.slot i 0)), swap_twice led.b (get_or s.slot i 0)) (q.counted i h);
      })
