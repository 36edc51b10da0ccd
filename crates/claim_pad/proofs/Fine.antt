-- The postings of a map pass the writer's checks: documents are known and rise, positions rise below the bar's length.
-- Assumes nothing.
use mathlib.Core.Path.{◌≡◌, refl, sym, ◌∙◌, subst}
use mathlib.Core.Bool.{Bool, true, false, cond}
use mathlib.Core.List.{List, [], ◌∷◌, map}
use mathlib.Core.Logic.{inl, inr}
use Prim.Native.Nat.{ℕ, ◌<◌}
use native.Mathlib.Omega.{arith}
use borrow.Author.Tests.{eqb-true}
use Rattle.common.specs.Elements.{◌∈◌, Rising}
use Rattle.common.specs.Members.{kept}
use Rattle.common.proofs.Elements.{rising_tail, rising_above, map_from}
use Rattle.common.proofs.Membership.{kept_gives, map_gives}
use Rattle.common.proofs.Rising.{rising_cons}
use Rattle.segment.specs.Records.{Posting}
use Rattle.segment.specs.Metadata.{document}
use Rattle.calls.specs.Acceptance.{PostingFine}
use Rattle.pad_map.specs.Bars.{Hit, Bar}
use Rattle.pad_map.specs.Rules.{ComesBefore, HitsRising, HitsFine}
use Rattle.pad_map.specs.Acts.{of_sound, steps_of, has_steps, postings_of}
use Rattle.pad_write.proofs.Bounds.{documents_of}
use Rattle.claim_pad.proofs.Listed.{bar_posting, steps_gives, postings_gives}

-- ---- the steps of one sound rise

comes_behind : (a b c : Hit) → ComesBefore a b → ComesBefore b c → ComesBefore a c
comes_behind a b c (inl x) (inl y) = inl (omega arith)
comes_behind a b c (inl x) (inr (e, y)) = inl (omega arith)
comes_behind a b c (inr (e, x)) (inl y) = inl (omega arith)
comes_behind a b c (inr (e, x)) (inr (f, y)) = inr (e ∙ f, omega arith)

hits_tail : (h : Hit) (hs : List Hit) → HitsRising (h ∷ hs) → HitsRising hs
hits_tail h [] r = tt
hits_tail h (k ∷ hs) r = r.1

hits_above : (h : Hit) (hs : List Hit) → HitsRising (h ∷ hs) → (k : Hit) → k ∈ hs → ComesBefore h k
hits_above h [] r k m = absurd m
hits_above h (x ∷ hs) (up, r) k (inl e) = rw e up
hits_above h (x ∷ hs) (up, r) k (inr m) = comes_behind h x k up (hits_above x hs r k m)

-- of one sound, so by step
by_step : (h k : Hit) → ComesBefore h k → h.sound ≡ k.sound → h.step < k.step
by_step h k (inl up) e = absurd (omega arith)
by_step h k (inr (_, up)) e = up

steps_rise : (s : ℕ) (hits : List Hit) → HitsRising hits → Rising (steps_of s hits)
unfolding steps_of kept
steps_rise s [] r = tt
steps_rise s (h ∷ hs) r = step (of_sound s h) refl (steps_rise s hs (hits_tail h hs r))
  where
    above : h.sound ≡ s → (x : ℕ) → x ∈ steps_of s hs → h.step < x
    above e x m =
        let (k, j, f, on) = steps_gives s hs x m in
        omega (arith, by_step h k (hits_above h hs r k j) (e ∙ sym f), on)

    step : (t : Bool) → of_sound s h ≡ t → Rising (steps_of s hs)
        → Rising (map (λ k. k.step) (cond t (h ∷ kept (of_sound s) hs) (kept (of_sound s) hs)))
    step true e later = rising_cons h.step (steps_of s hs) (above (eqb-true h.sound s e)) later
    step false e later = later

-- ---- the documents of one sound's postings rise

pictures_rise : {A : Type 0} (f : A → ℕ) (g : A → Bool) (xs : List A) → Rising (map f xs) → Rising (map f (kept g xs))
unfolding kept
pictures_rise f g [] r = tt
pictures_rise {A} f g (x ∷ xs) r = step (g x) (pictures_rise f g xs (rising_tail (f x) (map f xs) r))
  where
    above : (y : ℕ) → y ∈ map f (kept g xs) → f x < y
    above y m =
        let (z, k, e) = map_gives f (kept g xs) y m in
        rw e (rising_above (f x) (map f xs) r (f z) (map_from f xs z (kept_gives g xs z k).0))

    step : (t : Bool) → Rising (map f (kept g xs)) → Rising (map f (cond t (x ∷ kept g xs) (kept g xs)))
    step true later = rising_cons (f x) (map f (kept g xs)) above later
    step false later = later

docs_are : (s : ℕ) (bars : List Bar) → map (λ p. p.doc) (map (bar_posting s) bars) ≡ map (λ b. b.id) bars
docs_are s [] = refl
docs_are s (b ∷ bars) = rw (docs_are s bars)

pub docs_rise : (s : ℕ) (bars : List Bar) → Rising (map (λ b. b.id) bars) → Rising (map (λ p. p.doc) (postings_of s bars))
unfolding postings_of
docs_rise s bars r = pictures_rise (λ p. p.doc) has_steps (map (bar_posting s) bars) (rw (docs_are s bars) r)

-- ---- each posting is fine

pub posting_fine : (s : ℕ) (bars : List Bar) → ((b : Bar) → b ∈ bars → HitsFine b.len b.hits) → (p : Posting)
    → p ∈ postings_of s bars → PostingFine (documents_of bars) p
posting_fine s bars fine p m =
    let (b, held, is, some) = postings_gives s bars p m in
    subst (PostingFine (documents_of bars)) (sym is)
    (record {
      of = document b.id b.len;
      known = map_from (λ b. document b.id b.len) bars b held;
      same = refl;
      has_positions = rw is at some;
      rising = steps_rise s b.hits (fine b held).rising;
      inside = λ x on.
          let (h, mine, _, step) = steps_gives s b.hits x on in
          omega (arith, (fine b held).steps h mine, step);
    })
