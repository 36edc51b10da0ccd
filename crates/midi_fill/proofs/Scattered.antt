-- The filling pass taken apart by sounds: a sound's part of a list, afterwards, is what that sound's hits alone store into it.
-- Assumes nothing.
use mathlib.Core.Path.{◌≡◌, refl, sym, ap, subst, ◌∙◌}
use mathlib.Core.Bool.{Bool, true, false}
use mathlib.Core.List.{List, [], ◌∷◌}
use mathlib.Core.Logic.{◌⊎◌, inl, inr}
use Prim.Native.Nat.{ℕ, ◌+◌, ◌-◌, ◌≤◌, ◌<◌}
use native.Mathlib.Omega.{arith}
use lib.Dec.{eqb}
use lib.ListN.{length, get_or, set, take, drop, length-set}
use lib.Seq.{get_or-set_same, get_or-set_other, drop-set-add, drop-set-lt, take-set-lt, take-set-le}
use borrow.Author.Tests.{eqb-true, eqb-false, eq-eqb}
use Rattle.common.specs.Elements.{◌∈◌}
use Rattle.common.specs.Members.{kept}
use Rattle.midi_read.specs.declared.track.Hit.{Hit}
use Rattle.midi_read.specs.Files.{Grid, step_of}
use Rattle.midi_read.specs.Walks.{over}
use Rattle.midi_bars.specs.Bars.{of_sound}
use Rattle.midi_count.specs.Tallies.{fresh, opens}
use Rattle.midi_fill.specs.Stores.{in_last, loud_last, Buffers, put, stored}

-- ---- one sound's places of the tables

pub record One : Type 0 where
  pub last : ℕ
  pub postings : ℕ
  pub positions : ℕ
  pub inside : ℕ
  pub loud : ℕ

abbrev pub hit_one : (steps step velocity : ℕ) → One → One
hit_one steps step v s =
    let more = opens s.last step steps in
    let new = fresh s.last step in
    record {
      last = step + 1;
      postings = s.postings + more;
      positions = s.positions + new;
      inside = in_last more new s.inside;
      loud = loud_last new s.loud v;
    }

abbrev pub one : Grid → One → Hit → One
one g s h = hit_one g.steps (step_of g h) h.velocity s

abbrev pub tables : ℕ → Buffers → One
tables n x = record {
  last = get_or x.last n 0;
  postings = get_or x.postings n 0;
  positions = get_or x.positions n 0;
  inside = get_or x.inside n 0;
  loud = get_or x.loud n 0;
}

pub record Long (x : Buffers) : Type 0 where
  pub last : length x.last ≡ 128
  pub postings : length x.postings ≡ 128
  pub positions : length x.positions ≡ 128
  pub inside : length x.inside ≡ 128
  pub loud : length x.loud ≡ 128

module _ (starts marks : List ℕ) (i step steps v : ℕ) (x : Buffers) where
  long_on : Long x → Long (stored starts marks i step steps v x)
  long_on w = record {
    last = length-set x.last i _ ∙ w.last;
    postings = length-set x.postings i _ ∙ w.postings;
    positions = length-set x.positions i _ ∙ w.positions;
    inside = length-set x.inside i _ ∙ w.inside;
    loud = length-set x.loud i _ ∙ w.loud;
  }

  abbrev more : ℕ
  more = opens (get_or x.last i 0) step steps

  abbrev new : ℕ
  new = fresh (get_or x.last i 0) step

  tables_here : Long x → i < 128 → tables i (stored starts marks i step steps v x) ≡ hit_one steps step v (tables i x)
  tables_here w h =
      rw (
        get_or-set_same x.last i (step + 1) 0 (omega (arith, w.last)),
        get_or-set_same x.postings i (get_or x.postings i 0 + more) 0 (omega (arith, w.postings)),
        get_or-set_same x.positions i (get_or x.positions i 0 + new) 0 (omega (arith, w.positions)),
        get_or-set_same x.inside i (in_last more new (get_or x.inside i 0)) 0 (omega (arith, w.inside)),
        get_or-set_same x.loud i (loud_last new (get_or x.loud i 0) v) 0 (omega (arith, w.loud)),
      )

  tables_there : (n : ℕ) → (n ≡ i → ⊥) → tables n (stored starts marks i step steps v x) ≡ tables n x
  tables_there n k =
      rw (
        get_or-set_other x.last i n (step + 1) 0 k,
        get_or-set_other x.postings i n (get_or x.postings i 0 + more) 0 k,
        get_or-set_other x.positions i n (get_or x.positions i 0 + new) 0 k,
        get_or-set_other x.inside i n (in_last more new (get_or x.inside i 0)) 0 k,
        get_or-set_other x.loud i n (loud_last new (get_or x.loud i 0) v) 0 k,
      )

-- ---- parts

slice_in : (l : List ℕ) (s c i v : ℕ) → i < c → take c (drop s (set l (s + i) v)) ≡ set (take c (drop s l)) i v
slice_in l s c i v h = rw (drop-set-add s l i v) (take-set-lt c (drop s l) i v h)

slice_above : (l : List ℕ) (s c i v : ℕ) → c ≤ i → take c (drop s (set l (s + i) v)) ≡ take c (drop s l)
slice_above l s c i v h = rw (drop-set-add s l i v) (take-set-le c (drop s l) i v h)

slice_out : (l : List ℕ) (s c p v : ℕ) → (p < s) ⊎ (s + c ≤ p) → take c (drop s (set l p v)) ≡ take c (drop s l)
slice_out l s c p v (inl h) = rw (drop-set-lt s l p v h)
slice_out l s c p v (inr h) =
    subst (λ (q : ℕ). take c (drop s (set l q v)) ≡ take c (drop s l)) (let e : s + (p - s) ≡ p = omega arith in e)
    (slice_above l s c (p - s) v (omega arith))

pub kept_yes : {A : Type 0} (f : A → Bool) (x : A) (xs : List A) → f x ≡ true → kept f (x ∷ xs) ≡ x ∷ kept f xs
unfolding kept
kept_yes f x xs e = rw e

pub kept_not : {A : Type 0} (f : A → Bool) (x : A) (xs : List A) → f x ≡ false → kept f (x ∷ xs) ≡ kept f xs
unfolding kept
kept_not f x xs e = rw e

-- how one of the lists is filled: behind which place (the count after the hit), with what, and the key that decides whether the place is
-- a new one; `held` is the last key plus one, 0 where there is none
pub record Kind (g : Grid) : Type 0 where
  pub idx : One → ℕ
  pub val : Hit → One → ℕ
  pub key : Hit → ℕ
  pub held : One → ℕ
  pub counts : (s : One) (h : Hit) → idx (one g s h) ≡ idx s + fresh (held s) (key h)
  pub holds : (s : One) (h : Hit) → held (one g s h) ≡ key h + 1

module _ (g : Grid) (kind : Kind g) where
  abbrev idx : One → ℕ
  idx = kind.idx

  abbrev val : Hit → One → ℕ
  val = kind.val

  -- what one sound's hits store
  abbrev pub writes : One → List ℕ → List Hit → List ℕ
  writes s l [] = l
  writes s l (h ∷ hs) = writes (one g s h) (set l (idx (one g s h) - 1) (val h (one g s h))) hs

  -- every store within so many
  abbrev pub Inside : (c : ℕ) → One → List Hit → Type 0
  Inside c s [] = Unit {0}
  Inside c s (h ∷ hs) = (1 ≤ idx (one g s h)) × (idx (one g s h) ≤ c) × Inside c (one g s h) hs

  module _ (starts marks : List ℕ) (list : Buffers → List ℕ) (base : List ℕ)
      (law : (x : Buffers) (h : Hit) → list (put g starts marks x h)
      ≡ set (list x) (get_or base h.note 0 + idx (one g (tables h.note x) h) - 1) (val h (one g (tables h.note x) h))) where
    pub same_length : (x : Buffers) (hs : List Hit) → length (list (over (put g starts marks) x hs)) ≡ length (list x)
    same_length x [] = refl
    same_length x (h ∷ hs) = same_length (put g starts marks x h) hs ∙ ap length (law x h) ∙ length-set (list x) _ _

    -- where a sound's part begins, and the sound's places of the tables after a hit
    abbrev from : ℕ → ℕ
    from n = get_or base n 0

    abbrev next : ℕ → Buffers → Hit → One
    next n x h = one g (tables n x) h

    module _ (c : ℕ → ℕ)
        (apart : (m n : ℕ) → m < 128 → n < 128 → (m ≡ n → ⊥) → (from m + c m ≤ from n) ⊎ (from n + c n ≤ from m)) where
      abbrev part : ℕ → Buffers → List ℕ
      part n x = take (c n) (drop (from n) (list x))

      part_here : (x : Buffers) (h : Hit) (n : ℕ) → h.note ≡ n → 1 ≤ idx (next n x h) → idx (next n x h) ≤ c n
          → part n (put g starts marks x h) ≡ set (part n x) (idx (next n x h) - 1) (val h (next n x h))
      part_here x h n e some few =
          subst (λ (m : ℕ). 1 ≤ idx (next m x h) → idx (next m x h) ≤ c m
          → part m (put g starts marks x h) ≡ set (part m x) (idx (next m x h) - 1) (val h (next m x h))) e (λ some few.
          let m = h.note in
          let at : from m + idx (next m x h) - 1 ≡ from m + (idx (next m x h) - 1) = omega arith in
          rw (law x h, at) (slice_in (list x) (from m) (c m) (idx (next m x h) - 1) (val h (next m x h)) (omega arith))) some few

      part_there : (x : Buffers) (h : Hit) (n : ℕ) → (h.note ≡ n → ⊥) → h.note < 128 → n < 128
          → 1 ≤ idx (next h.note x h) → idx (next h.note x h) ≤ c h.note → part n (put g starts marks x h) ≡ part n x
      part_there x h n k low here some few =
          rw (law x h) (slice_out (list x) (from n) (c n) _ _ (side (apart h.note n low here k)))
        where
          side : (from h.note + c h.note ≤ from n) ⊎ (from n + c n ≤ from h.note)
              → let at = from h.note + idx (next h.note x h) - 1 in (at < from n) ⊎ (from n + c n ≤ at)
          side (inl l) = inl (omega arith)
          side (inr l) = inr (omega arith)

      here_is : (x : Buffers) (h : Hit) (n : ℕ) → Long x → n < 128 → h.note ≡ n → tables n (put g starts marks x h) ≡ one g (tables n x) h
      here_is x h n w l e =
          subst (λ (m : ℕ). m < 128 → tables m (put g starts marks x h) ≡ one g (tables m x) h) e
          (λ l. tables_here starts marks h.note (step_of g h) g.steps h.velocity x w l) l

      inside_on : (x : Buffers) (h : Hit) (hs : List Hit) (m : ℕ) → Long x → m < 128
          → Inside (c m) (tables m x) (kept (of_sound m) (h ∷ hs)) → Inside (c m) (tables m (put g starts marks x h)) (kept (of_sound m) hs)
      inside_on x h hs m w l i = step (eqb h.note m) refl
        where
          step : (b : Bool) → eqb h.note m ≡ b → Inside (c m) (tables m (put g starts marks x h)) (kept (of_sound m) hs)
          step true e =
              subst (λ (s : One). Inside (c m) s (kept (of_sound m) hs)) (sym (here_is x h m w l (eqb-true _ _ e)))
              (subst (λ (l : List Hit). Inside (c m) (tables m x) l) (kept_yes (of_sound m) h hs e) i).2
          step false e =
              subst (λ (s : One). Inside (c m) s (kept (of_sound m) hs))
              (sym (tables_there starts marks h.note (step_of g h) g.steps h.velocity x m (λ f. eqb-false _ _ e (sym f))))
              (subst (λ (l : List Hit). Inside (c m) (tables m x) l) (kept_not (of_sound m) h hs e) i)

      pub scattered : (x : Buffers) (hs : List Hit) → Long x → ((h : Hit) → h ∈ hs → h.note < 128)
          → ((m : ℕ) → m < 128 → Inside (c m) (tables m x) (kept (of_sound m) hs)) → (n : ℕ) → n < 128
          → part n (over (put g starts marks) x hs) ≡ writes (tables n x) (part n x) (kept (of_sound n) hs)
      unfolding kept
      scattered x [] w low i n l = refl
      scattered x (h ∷ hs) w low i n l =
          scattered (put g starts marks x h) hs (long_on starts marks h.note (step_of g h) g.steps h.velocity x w)
          (λ k m. low k (inr m))
          (λ m k. inside_on x h hs m w k (i m k)) n l
          ∙ step (eqb h.note n) refl
        where
          own : Inside (c h.note) (tables h.note x) (h ∷ kept (of_sound h.note) hs)
          own =
              subst (λ (l : List Hit). Inside (c h.note) (tables h.note x) l)
              (kept_yes (of_sound h.note) h hs (eq-eqb h.note h.note refl))
              (i h.note (low h (inl refl)))

          step : (b : Bool) → eqb h.note n ≡ b
              → writes (tables n (put g starts marks x h)) (part n (put g starts marks x h)) (kept (of_sound n) hs)
              ≡ writes (tables n x) (part n x) (kept (of_sound n) (h ∷ hs))
          step true e =
              let is : h.note ≡ n = eqb-true _ _ e in
              let own' = subst (λ (l : List Hit). Inside (c n) (tables n x) l) (kept_yes (of_sound n) h hs e) (i n l) in
              rw (kept_yes (of_sound n) h hs e, here_is x h n w l is, part_here x h n is own'.0 own'.1)
          step false e =
              rw (
                kept_not (of_sound n) h hs e,
                tables_there starts marks h.note (step_of g h) g.steps h.velocity x n (λ f. eqb-false _ _ e (sym f)),
                part_there x h n (eqb-false _ _ e) (low h (inl refl)) l own.0 own.1,
              )
