-- Room: an erased bar gives its own back, and 19 goes by the numbers held alone.
-- Assumes nothing.
use Rattle.std.specs.Prelude.{Err, None, Ok, Option, Some}
use mathlib.Core.Path.{◌≡◌, refl, sym, ap, ◌∙◌}
use mathlib.Core.Bool.{Bool, true, false}
use mathlib.Core.List.{List, [], ◌∷◌}
use mathlib.Core.Logic.{◌⊎◌, inl, inr}
use Prim.Native.Nat.{ℕ, suc, ◌+◌, ◌≤◌, ◌<◌}
use native.Mathlib.Omega.{arith}
use lib.ListN.{length}
use borrow.Author.Tests.{lt-ltb, le-ltb, lt-leb}
use Rattle.common.specs.Elements.{◌∈◌}
use Rattle.common.proofs.Elements.{rising_tail, rising_above}
use Rattle.common.proofs.Loops.{lt_or_ge}
use Rattle.common.proofs.OneMore.{equal_or_not}
use Rattle.segment.specs.declared.refusal.Refusal.{Refusal}
use Rattle.segment.specs.Refusals.{numbers, too_large, list_shape, velocity_range, already_held, pad_full}
use Rattle.segment.specs.Results.{Answer, ◌>>=◌, check}
use Rattle.segment.proofs.Binds.{refuse_ok}
use Rattle.pad_map.specs.Bars.{Bar, lookup, without, hits_in_all}
use Rattle.pad_map.specs.Rules.{all_up_to, all_audible, hits_rise, all_below, check_hits}
use Rattle.pad_map.specs.Acts.{save}
use Rattle.pad_map.specs.Claims.{ids, ListsWell, FullExactly, RoomGivenBack}
use Rattle.pad_map.proofs.Lookups.{lookup_here, lookup_later}
use Rattle.pad_map.proofs.Mapped.{some_none, without_here, without_later, without_absent}
use Rattle.pad_map.proofs.Saved.{small_test, even_test, check_exactly, saves_exactly}

-- ---- an erased bar

none_above : (bars : List Bar) (id : ℕ) → ((i : ℕ) → i ∈ ids bars → id < i) → lookup bars id ≡ None
unfolding lookup
none_above [] id f = refl
none_above (c ∷ cs) id f =
    let up = f c.id (inl refl) in
    lookup_later c cs id (λ e. omega arith) ∙ none_above cs id (λ i m. f i (inr m))

pub room_given_back : RoomGivenBack
unfolding lookup
room_given_back [] id b r e = some_none (sym e)
room_given_back (c ∷ cs) id b r e = go (equal_or_not c.id id) (room_given_back cs id b (rising_tail c.id (ids cs) r))
  where
    go : (c.id ≡ id) ⊎ (c.id ≡ id → ⊥)
        → (lookup cs id ≡ Some b
        → (suc (length (without id cs)) ≡ length cs) × (length b.hits + hits_in_all (without id cs) ≡ hits_in_all cs))
        → (suc (length (without id (c ∷ cs))) ≡ suc (length cs))
        × (length b.hits + hits_in_all (without id (c ∷ cs)) ≡ length c.hits + hits_in_all cs)
    go (inl y) s =
        let z : Some c ≡ Some b = sym (lookup_here c cs id y) ∙ e in
        let w : c ≡ b = cc in
        let n = none_above cs id (λ i m. rw y at (rising_above c.id (ids cs) r i m)) in
        rw (without_here c cs id y, without_absent cs id n, w) (refl, refl)
    go (inr n) s =
        let (m, h) = s (sym (lookup_later c cs id n) ∙ e) in
        rw (without_later c cs id n) (ap suc m, omega arith)

-- ---- 19

-- a test with another refusal was passed
pub other_passed : {B : Type 0} (t : Bool) (x : Refusal) (f : Unit {0} → Answer B) {y : Refusal} → ((numbers x).kind ≡ (numbers y).kind → ⊥)
    → check t x >>= f ≡ Err y → (t ≡ true) × (f tt ≡ Err y)
other_passed true x f n e = (refl, e)
other_passed false x f n e = absurd (n cc)

pub other_last : (t : Bool) (x : Refusal) {y : Refusal} → ((numbers x).kind ≡ (numbers y).kind → ⊥) → check t x ≡ Err y → ⊥
other_last true x n e = refuse_ok (sym e)
other_last false x n e = n cc

module _ (len : ℕ) (ss ts vs : List ℕ) where
  -- no test of the lists answers 19
  lists_not_full : check_hits len ss ts vs ≡ Err pad_full → ⊥
  unfolding check_hits
  lists_not_full e =
      let (_, a) = other_passed (small_test ss ts vs) too_large _ (λ z. omega arith) e in
      let (_, b) = other_passed (even_test ss ts vs) list_shape _ (λ z. omega arith) a in
      let (_, c) = other_passed (all_up_to 127 ss) too_large _ (λ z. omega arith) b in
      let (_, v) = other_passed (all_audible vs) velocity_range _ (λ z. omega arith) c in
      let (_, d) = other_passed (hits_rise None ss ts) _ _ (λ z. omega arith) v in
      other_last (all_below len ts) _ (λ z. omega arith) d

  module _ (bars : List Bar) (id : ℕ) where
    full_free : (o : Option Bar) → lookup bars id ≡ o → save bars id len ss ts vs ≡ Err pad_full → lookup bars id ≡ None
    unfolding save
    full_free None f e = f
    full_free (Some b) f e =
        let q : ◌≡◌ {A = Answer (List Bar)} (Err already_held) (Err pad_full) = rw f at e in
        let w : (numbers already_held).kind ≡ (numbers pad_full).kind = cc in
        absurd (omega arith)

    full_lists : (r : Answer (Unit {0})) → check_hits len ss ts vs ≡ r → lookup bars id ≡ None → save bars id len ss ts vs ≡ Err pad_full
        → check_hits len ss ts vs ≡ Ok tt
    unfolding save
    full_lists (Ok u) c f e = c
    full_lists (Err x) c f e =
        let q : ◌≡◌ {A = Answer (List Bar)} (Err x) (Err pad_full) = rw (f, c) at e in
        let s : x ≡ pad_full = cc in
        absurd (lists_not_full (c ∙ ap Err s))

    full_numbers : ListsWell len ss ts vs → lookup bars id ≡ None → save bars id len ss ts vs ≡ Err pad_full
        → (256 ≤ length bars) ⊎ (8192 < hits_in_all bars + length ss)
    full_numbers w f e = go (lt_or_ge (length bars) 256) (lt_or_ge 8192 (hits_in_all bars + length ss))
      where
        go : (length bars < 256) ⊎ (256 ≤ length bars)
            → (8192 < hits_in_all bars + length ss) ⊎ (hits_in_all bars + length ss ≤ 8192)
            → (256 ≤ length bars) ⊎ (8192 < hits_in_all bars + length ss)
        go (inr m) h = inl m
        go (inl m) (inl h) = inr h
        go (inl m) (inr h) = let (after, s) = (saves_exactly bars id len ss ts vs w).1 (f, m, h) in refuse_ok (sym e ∙ s)

    full_bars : ListsWell len ss ts vs → lookup bars id ≡ None → 256 ≤ length bars → save bars id len ss ts vs ≡ Err pad_full
    unfolding save
    full_bars w f m = rw (f, (check_exactly len ss ts vs).1 w, le-ltb (length bars) 256 m)

    full_hits : ListsWell len ss ts vs → lookup bars id ≡ None → length bars < 256 → 8192 < hits_in_all bars + length ss
        → save bars id len ss ts vs ≡ Err pad_full
    unfolding save
    full_hits w f m h =
        rw (f, (check_exactly len ss ts vs).1 w, lt-ltb (length bars) 256 m, lt-leb (hits_in_all bars + length ss) 8192 h)

pub full_exactly : FullExactly
full_exactly bars id len ss ts vs = (
  λ e.
      let f = full_free len ss ts vs bars id (lookup bars id) refl e in
      let w = (check_exactly len ss ts vs).0 (full_lists len ss ts vs bars id (check_hits len ss ts vs) refl f e) in
      (f, w, full_numbers len ss ts vs bars id w f e),
  λ (f, w, n). from w f n (lt_or_ge (length bars) 256),
)
  where
    from : ListsWell len ss ts vs → lookup bars id ≡ None → (256 ≤ length bars) ⊎ (8192 < hits_in_all bars + length ss)
        → (length bars < 256) ⊎ (256 ≤ length bars) → save bars id len ss ts vs ≡ Err pad_full
    from w f n (inr m) = full_bars len ss ts vs bars id w f m
    from w f (inl k) (inl m) = absurd (omega arith)
    from w f (inr h) (inl m) = full_hits len ss ts vs bars id w f m h
