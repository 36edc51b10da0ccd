-- The different names: those named, each once, in the order in which each is first named; and how often each is mentioned.
-- Assumes nothing.
use mathlib.Core.Path.{◌≡◌, refl, sym, ap, ◌∙◌}
use mathlib.Core.Bool.{Bool, true, false, cond, not}
use mathlib.Core.List.{List, [], ◌∷◌, ◌++◌, append-nil}
use mathlib.Core.Logic.{◌⊎◌, inl, inr, ⊎_elim, ◌↔◌}
use Prim.Native.Nat.{ℕ, zero, suc, ◌+◌, ◌≤◌, ◌<◌}
use native.Mathlib.Nat.{not-suc-le-zero}
use native.Mathlib.Omega.{arith}
use lib.ListN.{length, get_or, length-append}
use borrow.Author.Tests.{not-true}
use Rattle.common.proofs.Loops.{true_false}
use Rattle.segment.specs.Names.{same}
use Rattle.common.specs.Members.{kept}
use Rattle.common.specs.Elements.{◌∈◌}
use Rattle.rules.specs.Words.{mentions}
use Rattle.rules.specs.Different.{different}
use Rattle.segment.proofs.Strings.{same_refl, same_is, apart}
use Rattle.common.proofs.Membership.{at_place, kept_gives, kept_from}
use Rattle.common.proofs.Kept.{kept_fewer, kept_append}

-- the others than a name
abbrev pub other : List ℕ → List ℕ → Bool
other n m = not (same n m)

pub by_name : (n m : List ℕ) → (n ≡ m) ⊎ (same n m ≡ false)
by_name n m = step (same n m) refl
  where
    step : (t : Bool) → same n m ≡ t → (n ≡ m) ⊎ (same n m ≡ false)
    step true e = inl ((same_is n m).0 e)
    step false e = inr e

-- ---- those named

different_gives : (ns : List (List ℕ)) (n : List ℕ) → n ∈ different ns → n ∈ ns
unfolding different
different_gives [] n m = m
different_gives (k ∷ ks) n (inl e) = inl e
different_gives (k ∷ ks) n (inr m) = inr (different_gives ks n (kept_gives (other k) (different ks) n m).0)

different_from : (ns : List (List ℕ)) (n : List ℕ) → n ∈ ns → n ∈ different ns
unfolding different
different_from [] n m = m
different_from (k ∷ ks) n (inl e) = inl e
different_from (k ∷ ks) n (inr m) =
    ⊎_elim
    (λ (e : k ≡ n). inl (sym e))
    (λ (e : same k n ≡ false). inr (kept_from (other k) (different ks) n (different_from ks n m) (ap not e)))
    (by_name k n)

pub different_are : (ns : List (List ℕ)) (n : List ℕ) → (n ∈ different ns) ↔ (n ∈ ns)
different_are ns n = (different_gives ns n, different_from ns n)

pub different_fewer : (ns : List (List ℕ)) → length (different ns) ≤ length ns
unfolding different
different_fewer [] = omega arith
different_fewer (n ∷ ns) = omega (arith, kept_fewer (other n) (different ns), different_fewer ns)

pub different_first : (ns : List (List ℕ)) → get_or (different ns) 0 [] ≡ get_or ns 0 []
unfolding different
different_first [] = refl
different_first (n ∷ ns) = refl

-- ---- each once

-- no name stands twice
abbrev pub Once : List (List ℕ) → Type 0
Once [] = Unit {0}
Once (n ∷ ns) = ((m : List ℕ) → m ∈ ns → same n m ≡ false) × Once ns

kept_once : (f : List ℕ → Bool) (ns : List (List ℕ)) → Once ns → Once (kept f ns)
unfolding kept
kept_once f [] o = tt
kept_once f (n ∷ ns) (out, o) = step (f n) (kept_once f ns o)
  where
    step : (t : Bool) → Once (kept f ns) → Once (cond t (n ∷ kept f ns) (kept f ns))
    step true later = (λ m k. out m (kept_gives f ns m k).0, later)
    step false later = later

pub different_once : (ns : List (List ℕ)) → Once (different ns)
unfolding different
different_once [] = tt
different_once (n ∷ ns) = (
  λ m k. not-true (same n m) (kept_gives (other n) (different ns) m k).1,
  kept_once (other n) (different ns) (different_once ns),
)

once_apart : (ns : List (List ℕ)) → Once ns → (i j : ℕ) → i < j → j < length ns → same (get_or ns i []) (get_or ns j []) ≡ false
once_apart [] o i j h k = absurd (not-suc-le-zero k)
once_apart (n ∷ ns) o i zero h k = absurd (not-suc-le-zero h)
once_apart (n ∷ ns) o zero (suc j) h k = o.0 (get_or ns j []) (at_place [] ns j (omega arith))
once_apart (n ∷ ns) o (suc i) (suc j) h k = once_apart ns o.1 i j (omega arith) (omega arith)

-- by place
pub different_apart : (ns : List (List ℕ)) (i j : ℕ) → i < j → j < length (different ns)
    → same (get_or (different ns) i []) (get_or (different ns) j []) ≡ false
different_apart ns i j = once_apart (different ns) (different_once ns) i j

-- ---- one name more at the end

module _ (m : List ℕ) where
  pub in_or_out : (ns : List (List ℕ)) → (m ∈ ns) ⊎ (m ∈ ns → ⊥)
  in_or_out [] = inr (λ a. a)
  in_or_out (n ∷ ns) = step (by_name n m) (in_or_out ns)
    where
      step : (n ≡ m) ⊎ (same n m ≡ false) → (m ∈ ns) ⊎ (m ∈ ns → ⊥) → (m ∈ (n ∷ ns)) ⊎ (m ∈ (n ∷ ns) → ⊥)
      step (inl e) later = inl (inl (sym e))
      step (inr e) (inl a) = inl (inr a)
      step (inr e) (inr out) = inr (⊎_elim (λ (q : m ≡ n). true_false (sym ((same_is n m).1 (sym q)) ∙ e)) out)

  pub different_new : (ns : List (List ℕ)) → (m ∈ ns → ⊥) → different (ns ++ (m ∷ [])) ≡ different ns ++ (m ∷ [])
  unfolding different kept
  different_new [] out = refl
  different_new (n ∷ ns) out =
      rw (
        different_new ns (λ a. out (inr a)),
        kept_append (other n) (different ns) (m ∷ []),
        apart n m (λ e. out (inl (sym e))),
      )

  pub different_again : (ns : List (List ℕ)) → m ∈ ns → different (ns ++ (m ∷ [])) ≡ different ns
  unfolding different kept
  different_again [] a = absurd a
  different_again (n ∷ ns) a = step a (in_or_out ns) (different_again ns)
    where
      step : m ∈ (n ∷ ns) → (m ∈ ns) ⊎ (m ∈ ns → ⊥) → (m ∈ ns → different (ns ++ (m ∷ [])) ≡ different ns)
          → different (n ∷ (ns ++ (m ∷ []))) ≡ different (n ∷ ns)
      step (inr b) c later = rw (later b)
      step (inl e) (inl b) later = rw (later b)
      step (inl e) (inr out) later =
          rw (different_new ns out, kept_append (other n) (different ns) (m ∷ []), (same_is n m).1 (sym e), append-nil)

  pub mentions_again : (ns : List (List ℕ)) → mentions m (ns ++ (m ∷ [])) ≡ mentions m ns + 1
  unfolding mentions kept
  mentions_again ns = rw (kept_append (same m) ns (m ∷ []), length-append, same_refl m)

  pub mentions_other : (n : List ℕ) (ns : List (List ℕ)) → same n m ≡ false → mentions n (ns ++ (m ∷ [])) ≡ mentions n ns
  unfolding mentions kept
  mentions_other n ns e = rw (kept_append (same n) ns (m ∷ []), length-append, e) (omega arith)
