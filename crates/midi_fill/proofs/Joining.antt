-- A list that the filling pass has filled is its parts, one for each sound, joined.
-- Assumes nothing.
use mathlib.Core.Path.{◌≡◌, refl, sym, ap, ap₂, ◌∙◌}
use mathlib.Core.List.{List, [], ◌∷◌, ◌++◌, map}
use mathlib.Core.Logic.{◌⊎◌, inl, inr}
use Prim.Native.Nat.{ℕ, zero, suc, ◌+◌, ◌-◌, ◌≤◌, ◌<◌}
use native.Mathlib.Nat.{not-suc-le-zero}
use native.Mathlib.Omega.{arith}
use lib.ListN.{length, get_or, set, take, drop, length-append, length-drop, take-append-drop, drop_of_length-le}
use lib.Seq.{length-take-le, drop-drop}
use Rattle.common.proofs.Loops.{lt_or_ge}
use Rattle.common.specs.Elements.{◌∈◌}
use Rattle.common.specs.Members.{kept}
use Rattle.common.specs.Lists.{total, joined}
use Rattle.midi_read.specs.declared.track.Hit.{Hit}
use Rattle.midi_read.specs.Files.{Grid}
use Rattle.midi_read.specs.Walks.{over}
use Rattle.midi_bars.specs.Bars.{rising_from, of_sound}
use Rattle.midi_count.specs.Tallies.{starts_from}
use Rattle.midi_fill.specs.Stores.{Buffers, put}
use Rattle.midi_count.proofs.Runs.{runs}
use Rattle.midi_fill.proofs.Scattered.{one, tables, Long, Kind, same_length, scattered}
use Rattle.midi_fill.proofs.Settled.{settled, settled_length, writes_settled, settled_inside}

-- ---- where the parts begin

starts_above : (at : ℕ) (cs : List ℕ) (n : ℕ) → n < length cs → at ≤ get_or (starts_from at cs) n 0
starts_above at [] n h = absurd (not-suc-le-zero h)
starts_above at (c ∷ cs) zero h = omega arith
starts_above at (c ∷ cs) (suc n) h = omega (arith, starts_above (at + c) cs n (omega arith))

starts_apart : (at : ℕ) (cs : List ℕ) (m n : ℕ) → m < n → n < length cs
    → get_or (starts_from at cs) m 0 + get_or cs m 0 ≤ get_or (starts_from at cs) n 0
starts_apart at [] m n l h = absurd (not-suc-le-zero h)
starts_apart at (c ∷ cs) zero zero l h = absurd (omega arith)
starts_apart at (c ∷ cs) (suc m) zero l h = absurd (omega arith)
starts_apart at (c ∷ cs) zero (suc n) l h = starts_above (at + c) cs n (omega arith)
starts_apart at (c ∷ cs) (suc m) (suc n) l h = starts_apart (at + c) cs m n (omega arith) (omega arith)

pub starts_fit : (at : ℕ) (cs : List ℕ) (n : ℕ) → n < length cs → get_or (starts_from at cs) n 0 + get_or cs n 0 ≤ at + total cs
starts_fit at [] n h = absurd (not-suc-le-zero h)
starts_fit at (c ∷ cs) zero h = omega arith
starts_fit at (c ∷ cs) (suc n) h = omega (arith, starts_fit (at + c) cs n (omega arith))

pub starts_low : (at : ℕ) (cs : List ℕ) (m : ℕ) → at + total cs ≤ m → (n : ℕ) → get_or (starts_from at cs) n 0 ≤ m
starts_low at [] m h n = omega arith
starts_low at (c ∷ cs) m h zero = omega arith
starts_low at (c ∷ cs) m h (suc n) = starts_low (at + c) cs m (omega arith) n

joined_back : (cs : List ℕ) (at k : ℕ) (l : List ℕ) (f : ℕ → List ℕ) → length l ≡ at + total cs
    → ((i : ℕ) → i < length cs → take (get_or cs i 0) (drop (get_or (starts_from at cs) i 0) l) ≡ f (k + i))
    → drop at l ≡ joined (map f (rising_from k (length cs)))
unfolding rising_from
joined_back [] at k l f long each = drop_of_length-le l {i = at} (omega arith)
joined_back (c ∷ cs) at k l f long each =
    let here : k + 0 ≡ k = omega arith in
    sym (take-append-drop c (drop at l))
    ∙ ap₂ ◌++◌ (each 0 (omega arith) ∙ ap f here)
    (drop-drop c at l ∙ joined_back cs (at + c) (suc k) l f (omega arith) (λ i h.
    let next : k + suc i ≡ suc k + i = omega arith in
    each (suc i) (omega arith) ∙ ap f next))

pub total_of : (cs : List ℕ) (k : ℕ) (f : ℕ → List ℕ) → ((i : ℕ) → i < length cs → get_or cs i 0 ≡ length (f (k + i)))
    → total cs ≡ length (joined (map f (rising_from k (length cs))))
unfolding rising_from
total_of [] k f each = refl
total_of (c ∷ cs) k f each =
    let here : k + 0 ≡ k = omega arith in
    let first : c ≡ length (f k) = each 0 (omega arith) ∙ ap (λ (n : ℕ). length (f n)) here in
    let later : total cs ≡ length (joined (map f (rising_from (suc k) (length cs)))) =
    total_of cs (suc k) f (λ i h.
    let next : k + suc i ≡ suc k + i = omega arith in
    each (suc i) (omega arith) ∙ ap (λ (n : ℕ). length (f n)) next) in
    omega (arith, length-append (f k) (joined (map f (rising_from (suc k) (length cs)))))

-- ---- a list of the pass

module _ (g : Grid) (kind : Kind g) (starts marks : List ℕ) (list : Buffers → List ℕ) (cs : List ℕ)
    (law : (x : Buffers) (h : Hit) → let s = one g (tables h.note x) h in
    list (put g starts marks x h) ≡ set (list x) (get_or (starts_from 0 cs) h.note 0 + kind.idx s - 1) (kind.val h s))
    (x : Buffers) (hs : List Hit) (long : Long x) (low : (h : Hit) → h ∈ hs → h.note < 128)
    (many : length cs ≡ 128) (room : length (list x) ≡ total cs)
    (counted : (n : ℕ) → n < 128 → get_or cs n 0 ≡ length (runs 0 (map kind.key (kept (of_sound n) hs))))
    (empty : (n : ℕ) → kind.idx (tables n x) ≡ 0) (none : (n : ℕ) → kind.held (tables n x) ≡ 0) where
  -- where a sound's part begins, and behind it
  abbrev from : ℕ → ℕ
  from n = get_or (starts_from 0 cs) n 0

  abbrev to : ℕ → ℕ
  to n = from n + get_or cs n 0

  -- what is stored for a sound
  abbrev own : ℕ → List ℕ
  own n = settled g kind (tables n x) (kept (of_sound n) hs)

  apart : (m n : ℕ) → m < 128 → n < 128 → (m ≡ n → ⊥) → (to m ≤ from n) ⊎ (to n ≤ from m)
  apart m n a b k = step (lt_or_ge m n)
    where
      step : (m < n) ⊎ (n ≤ m) → (to m ≤ from n) ⊎ (to n ≤ from m)
      step (inl l) = inl (starts_apart 0 cs m n l (omega arith))
      step (inr l) = inr (starts_apart 0 cs n m (omega (arith, k)) (omega arith))

  own_length : (n : ℕ) → n < 128 → length (own n) ≡ get_or cs n 0
  own_length n l = settled_length g kind (tables n x) (empty n) (none n) (kept (of_sound n) hs) ∙ sym (counted n l)

  part : (n : ℕ) → n < 128 → take (get_or cs n 0) (drop (from n) (list (over (put g starts marks) x hs))) ≡ own n
  part n l =
      let fits : to n ≤ length (list x) = omega (arith, starts_fit 0 cs n (omega arith)) in
      let rest : length (drop (from n) (list x)) ≡ length (list x) - from n = length-drop (from n) (list x) in
      scattered g kind starts marks list (starts_from 0 cs) law (λ n. get_or cs n 0) apart x hs long low (λ m k.
      settled_inside g kind (tables m x) (empty m) (none m) (get_or cs m 0) (kept (of_sound m) hs) (omega (arith, own_length m k))) n l
      ∙ writes_settled g kind (tables n x) (empty n) (none n) (take (get_or cs n 0) (drop (from n) (list x))) (kept (of_sound n) hs)
      (length-take-le (get_or cs n 0) (drop (from n) (list x)) (omega arith) ∙ sym (own_length n l))

  pub filled : (f : ℕ → List ℕ) → ((n : ℕ) → n < 128 → own n ≡ f n)
      → list (over (put g starts marks) x hs) ≡ joined (map f (rising_from 0 128))
  filled f is =
      joined_back cs 0 0 (list (over (put g starts marks) x hs)) f
      (same_length g kind starts marks list (starts_from 0 cs) law x hs ∙ room ∙ omega arith) (λ n h.
      let here : 0 + n ≡ n = omega arith in
      part n (omega arith) ∙ is n (omega arith) ∙ ap f (sym here))
      ∙ ap (λ (n : ℕ). joined (map f (rising_from 0 n))) many
