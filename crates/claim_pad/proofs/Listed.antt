-- What stands in the lists of a map: each term is a sound's, each posting a bar's, each position a hit's, and the other way round.
-- Assumes nothing.
use mathlib.Core.Path.{◌≡◌, refl, sym, ap, ◌∙◌}
use mathlib.Core.Bool.{Bool, true, false, cond}
use mathlib.Core.List.{List, [], ◌∷◌, map}
use mathlib.Core.Logic.{inl, inr}
use Prim.Native.Nat.{ℕ, zero, suc, ◌+◌, ◌<◌}
use native.Mathlib.Nat.{not-suc-le-zero}
use native.Mathlib.Omega.{arith}
use lib.Dec.{ltb}
use lib.ListN.{length, get_or}
use borrow.Author.Tests.{ltb-true, lt-ltb, eqb-true, eq-eqb}
use Rattle.common.specs.Elements.{◌∈◌}
use Rattle.common.specs.Members.{kept}
use Rattle.common.proofs.Elements.{map_from}
use Rattle.common.proofs.Membership.{kept_gives, kept_from, map_gives}
use Rattle.segment.specs.Records.{Posting, Term}
use Rattle.calls.specs.Given.{posting, term}
use Rattle.pad_map.specs.Bars.{Hit, Bar}
use Rattle.pad_map.specs.Acts.{of_sound, steps_of, has_steps, postings_of, terms_of}

-- ---- positions are the steps of the sound's hits

pub steps_gives : (s : ℕ) (hits : List Hit) (x : ℕ) → x ∈ steps_of s hits → (h : Hit) × (h ∈ hits) × (h.sound ≡ s) × (h.step ≡ x)
unfolding steps_of
steps_gives s hits x m =
    let (h, k, e) = map_gives (λ h. h.step) (kept (of_sound s) hits) x m in
    let (j, t) = kept_gives (of_sound s) hits h k in
    (h, j, eqb-true h.sound s t, sym e)

pub steps_from : (s : ℕ) (hits : List Hit) (h : Hit) → h ∈ hits → h.sound ≡ s → h.step ∈ steps_of s hits
unfolding steps_of
steps_from s hits h m e =
    map_from (λ h. h.step) (kept (of_sound s) hits) h (kept_from (of_sound s) hits h m (eq-eqb h.sound s e))

-- ---- postings are the bars' that have the sound

abbrev pub bar_posting : ℕ → Bar → Posting
bar_posting s b = posting b.id (steps_of s b.hits)

pub postings_gives : (s : ℕ) (bars : List Bar) (p : Posting) → p ∈ postings_of s bars
    → (b : Bar) × (b ∈ bars) × (p ≡ bar_posting s b) × (0 < length p.positions)
unfolding postings_of
postings_gives s bars p m =
    let (k, t) = kept_gives has_steps (map (bar_posting s) bars) p m in
    let (b, j, e) = map_gives (bar_posting s) bars p k in
    (b, j, e, ltb-true 0 (length p.positions) t)

pub postings_from : (s : ℕ) (bars : List Bar) (b : Bar) → b ∈ bars → 0 < length (steps_of s b.hits)
    → bar_posting s b ∈ postings_of s bars
unfolding postings_of
postings_from s bars b m h =
    kept_from has_steps (map (bar_posting s) bars) (bar_posting s b) (map_from (bar_posting s) bars b m)
    (lt-ltb 0 (length (steps_of s b.hits)) h)

-- ---- terms are the sounds' that have hits, each under the name at its place

pub record TermOf (s : ℕ) (ns : List (List ℕ)) (bars : List Bar) (t : Term) : Type 0 where
  pub place : ℕ
  pub inside : place < length ns
  pub name_is : t.name ≡ get_or ns place []
  pub postings_are : t.postings ≡ postings_of (s + place) bars
  pub some : 0 < length t.postings

pub terms_gives : (s : ℕ) (ns : List (List ℕ)) (bars : List Bar) (t : Term) → t ∈ terms_of s ns bars → TermOf s ns bars t
unfolding terms_of
terms_gives s [] bars t m = absurd m
terms_gives s (n ∷ ns) bars t m =
    step (ltb 0 (length (postings_of s bars))) refl m (terms_gives (suc s) ns bars t)
  where
    one_on : TermOf (suc s) ns bars t → TermOf s (n ∷ ns) bars t
    one_on o =
        let e : suc s + o.place ≡ s + suc o.place = omega arith in
        record {
          place = suc o.place;
          inside = omega (arith, o.inside);
          name_is = o.name_is;
          postings_are = o.postings_are ∙ ap (λ k. postings_of k bars) e;
          some = o.some;
        }

    step : (b : Bool) → ltb 0 (length (postings_of s bars)) ≡ b
        → t ∈ cond b (term n (postings_of s bars) ∷ terms_of (suc s) ns bars) (terms_of (suc s) ns bars)
        → (t ∈ terms_of (suc s) ns bars → TermOf (suc s) ns bars t) → TermOf s (n ∷ ns) bars t
    step true e (inl is) later =
        let here : s ≡ s + 0 = omega arith in
        record {
          place = 0;
          inside = omega arith;
          name_is = ap (λ (u : Term). u.name) is;
          postings_are = ap (λ (u : Term). u.postings) is ∙ ap (λ k. postings_of k bars) here;
          some = rw is (ltb-true 0 (length (postings_of s bars)) e);
        }
    step true e (inr k) later = one_on (later k)
    step false e k later = one_on (later k)

pub terms_from : (s : ℕ) (ns : List (List ℕ)) (bars : List Bar) (i : ℕ) → i < length ns → 0 < length (postings_of (s + i) bars)
    → term (get_or ns i []) (postings_of (s + i) bars) ∈ terms_of s ns bars
unfolding terms_of
terms_from s [] bars i h some = absurd (not-suc-le-zero h)
terms_from s (n ∷ ns) bars zero h some =
    let e : s + 0 ≡ s = omega arith in
    rw (e, lt-ltb 0 (length (postings_of s bars)) (rw e at some)) (inl refl)
terms_from s (n ∷ ns) bars (suc i) h some =
    let e : s + suc i ≡ suc s + i = omega arith in
    step (ltb 0 (length (postings_of s bars))) _ (rw e (terms_from (suc s) ns bars i (omega arith) (rw e at some)))
  where
    step : (b : Bool) (t : Term) → t ∈ terms_of (suc s) ns bars
        → t ∈ cond b (term n (postings_of s bars) ∷ terms_of (suc s) ns bars) (terms_of (suc s) ns bars)
    step true t k = inr k
    step false t k = k
