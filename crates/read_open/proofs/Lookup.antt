-- A name looked up: the steps of the binary search, and the entry at the index that it found.
-- Assumes nothing.
use Rattle.std.specs.Prelude.{None, Some}
use Rattle.std.specs.declared.cmp.Ordering.TheVariants.{Greater, Less}
use mathlib.Core.Path.{◌≡◌, refl, sym, ap, ◌∙◌}
use mathlib.Core.Bool.{true}
use mathlib.Core.List.{List, [], ◌∷◌}
use mathlib.Core.Logic.{⊎_elim}
use Prim.Native.Nat.{ℕ, zero, suc, ◌+◌, ◌*◌, ◌-◌, ◌≤◌, ◌<◌}
use native.Mathlib.Nat.{not-suc-le-zero}
use native.Mathlib.Omega.{arith}
use lib.ListN.{length, get_or}
use Rattle.common.proofs.Loops.{true_false, lt_or_ge}
use Rattle.read_open.specs.declared.header.Layout.{Layout}
use Rattle.segment.specs.Records.{Entry, Segment, field, between}
use Rattle.segment.specs.Names.{precedes}
use Rattle.segment.specs.Steps.{order}
use Rattle.segment.specs.Directory.{entry_of}
use Rattle.read_open.specs.Steps.{cut, name_at, Sorted, Located}
use Rattle.read_open.specs.Opened.{no_entry, IsOpen}
use Rattle.segment.proofs.Strings.{same_is, apart, less_is, greater_is, precedes_irreflexive, precedes_transitive, precedes_total}

-- ---- the search

-- the bytes that the code compares are the name
pub name_is : (dir names : List ℕ) (i : ℕ) {at n : ℕ} → at ≡ field 4 (i * 32) dir → n ≡ field 4 (i * 32 + 4) dir
    → between at (at + n) names ≡ name_at dir names i
name_is dir names i {at} {n} e f = let s : at + n - at ≡ n = omega arith in rw (s, e, f)

-- every name below an index comes before a name, and every name from an index on comes after it
abbrev pub AllBefore : (dir names name : List ℕ) → ℕ → Type 0
AllBefore dir names name low = (k : ℕ) → k < low → precedes (name_at dir names k) name ≡ true

abbrev pub AllAfter : (dir names name : List ℕ) (count : ℕ) → ℕ → Type 0
AllAfter dir names name count high = (k : ℕ) → high ≤ k → k < count → precedes name (name_at dir names k) ≡ true

apart_names : (a b : List ℕ) → precedes a b ≡ true → a ≡ b → ⊥
apart_names a b e q = true_false (sym (rw q at e) ∙ precedes_irreflexive b)

module _ (dir names name : List ℕ) (count : ℕ) where
  module _ (sorted : Sorted dir names count) (m : ℕ) (inside : m < count) where
    pub before_more : Less ≡ order (name_at dir names m) name → AllBefore dir names name (m + 1)
    before_more e k h =
        let here = less_is (name_at dir names m) name (sym e) in
        ⊎_elim
        (λ (l : k < m). precedes_transitive _ _ _ (sorted.rising k m l inside) here)
        (λ (l : m ≤ k). let q : k ≡ m = omega arith in rw q here)
        (lt_or_ge k m)

    pub after_more : Greater ≡ order (name_at dir names m) name → AllAfter dir names name count m
    after_more e k h i =
        let g = greater_is (name_at dir names m) name (sym e) in
        let here = precedes_total (name_at dir names m) name g.0 g.1 in
        ⊎_elim
        (λ (l : m < k). precedes_transitive _ _ _ here (sorted.rising m k l i))
        (λ (l : k ≤ m). let q : k ≡ m = omega arith in rw q here)
        (lt_or_ge m k)

  pub nowhere : (low high : ℕ) → high ≤ low → AllBefore dir names name low → AllAfter dir names name count high
      → Located dir names count name None
  nowhere low high h before after i k =
      ⊎_elim
      (λ (l : i < low). apart_names _ _ (before i l))
      (λ (l : low ≤ i). λ e. apart_names _ _ (after i (omega arith) k) (sym e))
      (lt_or_ge i low)

-- ---- the entry of a name

entry_of_at : (es : List Entry) (name : List ℕ) (i : ℕ) → i < length es → (get_or es i no_entry).name ≡ name
    → ((k : ℕ) → k < i → (get_or es k no_entry).name ≡ name → ⊥) → entry_of es name ≡ Some (get_or es i no_entry)
unfolding entry_of
entry_of_at [] name i h e f = absurd (not-suc-le-zero h)
entry_of_at (x ∷ es) name zero h e f = rw ((same_is x.name name).1 e)
entry_of_at (x ∷ es) name (suc i) h e f =
    rw (apart x.name name (f 0 (omega arith))) (entry_of_at es name i (omega arith) e (λ k l. f (suc k) (omega arith)))

entry_of_absent : (es : List Entry) (name : List ℕ) → ((k : ℕ) → k < length es → (get_or es k no_entry).name ≡ name → ⊥)
    → entry_of es name ≡ None
unfolding entry_of
entry_of_absent [] name f = refl
entry_of_absent (x ∷ es) name f =
    rw (apart x.name name (f 0 (omega arith))) (entry_of_absent es name (λ k l. f (suc k) (omega arith)))

-- an index with a name is its entry's, and a name that is at no index has none
module _ {bytes : List ℕ} {l : Layout} {segment : Segment} (is : IsOpen bytes l segment) (name : List ℕ) where
  name_here : (i : ℕ) → i < l.terms → (get_or segment.entries i no_entry).name ≡ name_at (cut bytes l).directory (cut bytes l).names i
  name_here i h = ap (λ (e : Entry). e.name) (is.entry i h)

  pub located_at : (i : ℕ) → Located (cut bytes l).directory (cut bytes l).names l.terms name (Some i)
      → entry_of segment.entries name ≡ Some (get_or segment.entries i no_entry)
  located_at i (h, e) =
      entry_of_at segment.entries name i (omega (arith, is.term_count)) (name_here i h ∙ e)
      (λ k l q. apart_names _ _ (is.sorted.rising k i l h) (sym (name_here k (omega arith)) ∙ q ∙ sym e))

  pub located_nowhere : Located (cut bytes l).directory (cut bytes l).names l.terms name None
      → entry_of segment.entries name ≡ None
  located_nowhere f =
      entry_of_absent segment.entries name
      (λ k h q. let i : k < l.terms = omega (arith, is.term_count) in f k i (sym (name_here k i) ∙ q))
