-- A document's own positions of a name are those that stand in some list under that name and id.
-- Assumes nothing.
use mathlib.Core.Path.{◌≡◌, refl}
use mathlib.Core.Bool.{Bool, true, false, cond}
use mathlib.Core.List.{List, [], ◌∷◌, ◌++◌, map}
use Prim.Native.Nat.{ℕ}
use lib.Dec.{eqb}
use borrow.Author.Tests.{eqb-true, eq-eqb}
use Rattle.segment.specs.Records.{Posting, Term}
use Rattle.segment.specs.Names.{same}
use Rattle.segment.proofs.Strings.{same_is}
use Rattle.calls.specs.Given.{given}
use Rattle.common.specs.Members.{kept}
use Rattle.common.specs.Lists.{joined}
use Rattle.common.specs.Elements.{◌∈◌}
use Rattle.common.proofs.Membership.{joined_gives, joined_from, map_gives, kept_gives, kept_from}
use Rattle.common.proofs.Elements.{map_from}
use Rattle.claim_joint.specs.Own.{own_of, own_under}
use Rattle.claim_joint.specs.Claims.{OwnExactly}

-- the lists of those that pass a test, one after the other
module _ {A : Type 0} (test : A → Bool) (list : A → List ℕ) where
  abbrev gathered : List A → List ℕ
  gathered xs = joined (map list (kept test xs))

  gathered_more : (x : A) (xs : List A) → gathered (x ∷ xs) ≡ cond (test x) (list x ++ gathered xs) (gathered xs)
  unfolding kept
  gathered_more x xs = step (test x)
    where
      step : (b : Bool) → joined (map list (cond b (x ∷ kept test xs) (kept test xs))) ≡ cond b (list x ++ gathered xs) (gathered xs)
      step true = refl
      step false = refl

  gathered_gives : (xs : List A) (p : ℕ) → p ∈ gathered xs → (x : A) × (x ∈ xs) × (test x ≡ true) × (p ∈ list x)
  gathered_gives xs p m =
      let (ys, k, on) = joined_gives (map list (kept test xs)) p m in
      let (x, j, e) = map_gives list (kept test xs) ys k in
      let (i, t) = kept_gives test xs x j in
      (x, i, t, rw e at on)

  gathered_from : (xs : List A) (p : ℕ) (x : A) → x ∈ xs → test x ≡ true → p ∈ list x → p ∈ gathered xs
  gathered_from xs p x m t on =
      joined_from (map list (kept test xs)) (list x) p (map_from list (kept test xs) x (kept_from test xs x m t)) on

-- own positions, so gathered
abbrev of_doc : ℕ → Posting → Bool
of_doc d p = eqb p.doc d

abbrev of_name : List ℕ → Term → Bool
of_name n t = same t.name n

of_is : (ps : List Posting) (d : ℕ) → own_of ps d ≡ gathered (of_doc d) (λ p. p.positions) ps
unfolding own_of kept
of_is [] d = refl
of_is (p ∷ ps) d = rw (of_is ps d, gathered_more (of_doc d) (λ p. p.positions) p ps)

under_is : (ts : List Term) (d : ℕ) (n : List ℕ) → own_under ts d n ≡ gathered (of_name n) (λ t. own_of t.postings d) ts
unfolding own_under kept
under_is [] d n = refl
under_is (t ∷ ts) d n = rw (under_is ts d n, gathered_more (of_name n) (λ t. own_of t.postings d) t ts)

pub own_stands : OwnExactly
own_stands l d n p = (
  λ m.
      let (t, i, e, k) = gathered_gives (of_name n) (λ t. own_of t.postings d) (given l).terms p (rw under_is at m) in
      let (q, j, f, on) = gathered_gives (of_doc d) (λ p. p.positions) t.postings p (rw of_is at k) in
      record {
        term = t;
        posting = q;
        handed_in = i;
        of_name = (same_is t.name n).0 e;
        under = j;
        of = eqb-true q.doc d f;
        on = on;
      },
  λ s.
      rw under_is
      (gathered_from (of_name n) (λ t. own_of t.postings d) (given l).terms p s.term s.handed_in
      ((same_is s.term.name n).1 s.of_name)
      (rw of_is
      (gathered_from (of_doc d) (λ p. p.positions) s.term.postings p s.posting s.under (eq-eqb s.posting.doc d s.of)
      s.on))),
)
