-- The lists of a map pass the writer's checks exactly where the names of sounds with hits do.
-- Assumes nothing.
use Rattle.std.specs.Prelude.{Err, None, Ok, Option, Some}
use mathlib.Core.Path.{◌≡◌, refl, ◌∙◌, subst}
use mathlib.Core.Bool.{Bool, true, false, cond}
use mathlib.Core.List.{List, [], ◌∷◌, map}
use mathlib.Core.Logic.{inl, inr}
use Prim.Native.Nat.{ℕ, zero, suc, ◌+◌, ◌<◌}
use native.Mathlib.Nat.{not-suc-le-zero}
use native.Mathlib.Omega.{arith}
use lib.Dec.{ltb}
use lib.ListN.{length, get_or}
use borrow.Author.Tests.{lt-ltb, ltb-true}
use Rattle.common.specs.Elements.{◌∈◌}
use Rattle.common.proofs.Elements.{map_from}
use Rattle.common.proofs.Membership.{map_gives, some_in, in_some}
use Rattle.segment.specs.Names.{Before}
use Rattle.segment.specs.Records.{Document, Posting, Term}
use Rattle.segment.specs.Results.{Answer, ◌>>=◌}
use Rattle.segment.proofs.Strings.{precedes_is}
use Rattle.calls.specs.Given.{term}
use Rattle.calls.specs.Acceptance.{NamesRising}
use Rattle.calls.specs.Checks.{check_name, check_postings, check_terms}
use Rattle.claim_joint.proofs.Once.{names_above, names_tail}
use Rattle.pad_map.specs.Bars.{Bar}
use Rattle.pad_map.specs.Acts.{steps_of, postings_of, terms_of}
use Rattle.claim_pad.specs.Written.{Used}
use Rattle.claim_pad.specs.Claims.{check_used}
use Rattle.claim_pad.proofs.Listed as listed
use Rattle.claim_pad.proofs.Listed.{steps_gives, steps_from, postings_gives}

-- ---- a sound with hits has postings

pub used_some : (bars : List Bar) (s : ℕ) → Used bars s → 0 < length (postings_of s bars)
used_some bars s u =
    let on = steps_from s u.bar.hits u.hit u.own u.of in
    in_some (postings_of s bars) _
    (listed.postings_from s bars u.bar u.held (in_some (steps_of s u.bar.hits) u.hit.step on))

pub some_used : (bars : List Bar) (s : ℕ) → 0 < length (postings_of s bars) → Used bars s
some_used bars s h =
    let (p, m) = some_in (postings_of s bars) h in
    let (b, held, is, has) = postings_gives s bars p m in
    let (x, on) = some_in p.positions has in
    let (k, mine, of, _) = steps_gives s b.hits x (subst (λ (q : Posting). x ∈ q.positions) is on) in
    record { bar = b; hit = k; held = held; own = mine; of = of }

-- ---- the order of names: of the terms, and of any two sounds with hits

names_cons : (n : List ℕ) (ns : List (List ℕ)) → ((m : List ℕ) → m ∈ ns → Before n m) → NamesRising ns → NamesRising (n ∷ ns)
names_cons n [] h r = tt
names_cons n (m ∷ ns) h r = (h m (inl refl), r)

module _ (bars : List Bar) where
  abbrev named : ℕ → List (List ℕ) → List (List ℕ)
  named s ns = map (λ t. t.name) (terms_of s ns bars)

  -- any two of the sounds from one on
  abbrev PairsRise : ℕ → List (List ℕ) → Type 0
  PairsRise s ns = (i j : ℕ) → i < j → j < length ns → Used bars (s + i) → Used bars (s + j) → Before (get_or ns i []) (get_or ns j [])

  next_sound : (s i : ℕ) → Used bars (suc s + i) → Used bars (s + suc i)
  next_sound s i u = let e : suc s + i ≡ s + suc i = omega arith in subst (Used bars) e u

  sound_next : (s i : ℕ) → Used bars (s + suc i) → Used bars (suc s + i)
  sound_next s i u = let e : s + suc i ≡ suc s + i = omega arith in subst (Used bars) e u

  -- the name of a later sound is a later term's
  later_name : (s : ℕ) (ns : List (List ℕ)) (m : List ℕ) → m ∈ named s ns
      → (j : ℕ) × (j < length ns) × (m ≡ get_or ns j []) × Used bars (s + j)
  later_name s ns m k =
      let (t, there, e) = map_gives (λ t. t.name) (terms_of s ns bars) m k in
      let o = listed.terms_gives s ns bars t there in
      (o.place, o.inside, e ∙ o.name_is, some_used bars (s + o.place) (rw o.postings_are at o.some))

  name_later : (s : ℕ) (ns : List (List ℕ)) (j : ℕ) → j < length ns → Used bars (s + j) → get_or ns j [] ∈ named s ns
  name_later s ns j h u =
      map_from (λ t. t.name) (terms_of s ns bars) (term (get_or ns j []) (postings_of (s + j) bars))
      (listed.terms_from s ns bars j h (used_some bars (s + j) u))

  pub names_from : (s : ℕ) (ns : List (List ℕ)) → PairsRise s ns → NamesRising (named s ns)
  unfolding terms_of
  names_from s [] h = tt
  names_from s (n ∷ ns) h =
      step (ltb 0 (length (postings_of s bars))) refl
      (names_from (suc s) ns (λ i j up inside u v. h (suc i) (suc j) (omega arith) (omega arith) (next_sound s i u) (next_sound s j v)))
    where
      above : 0 < length (postings_of s bars) → (m : List ℕ) → m ∈ named (suc s) ns → Before n m
      above has m k =
          let (j, inside, e, u) = later_name (suc s) ns m k in
          let here : s ≡ s + 0 = omega arith in
          rw e (h 0 (suc j) (omega arith) (omega arith) (subst (Used bars) here (some_used bars s has)) (next_sound s j u))

      step : (b : Bool) → ltb 0 (length (postings_of s bars)) ≡ b → NamesRising (named (suc s) ns)
          → NamesRising (map (λ t. t.name) (cond b (term n (postings_of s bars) ∷ terms_of (suc s) ns bars) (terms_of (suc s) ns bars)))
      step true e later = names_cons n (named (suc s) ns) (above (ltb-true 0 (length (postings_of s bars)) e)) later
      step false e later = later

  pub names_give : (s : ℕ) (ns : List (List ℕ)) → NamesRising (named s ns) → PairsRise s ns
  unfolding terms_of
  names_give s [] r i j up inside u v = absurd (not-suc-le-zero inside)
  names_give s (n ∷ ns) r i zero up inside u v = absurd (not-suc-le-zero up)
  names_give s (n ∷ ns) r zero (suc j) up inside u v =
      let here : s + 0 ≡ s = omega arith in
      let has = lt-ltb 0 (length (postings_of s bars)) (used_some bars s (subst (Used bars) here u)) in
      (precedes_is n (get_or ns j [])).0
      (names_above n (named (suc s) ns) (rw has at r) (get_or ns j []) (name_later (suc s) ns j (omega arith) (sound_next s j v)))
  names_give s (n ∷ ns) r (suc i) (suc j) up inside u v =
      names_give (suc s) ns (step (ltb 0 (length (postings_of s bars))) r) i j (omega arith) (omega arith)
      (sound_next s i u) (sound_next s j v)
    where
      step : (b : Bool)
          → NamesRising (map (λ t. t.name) (cond b (term n (postings_of s bars) ∷ terms_of (suc s) ns bars) (terms_of (suc s) ns bars)))
          → NamesRising (named (suc s) ns)
      step true q = names_tail n (named (suc s) ns) q
      step false q = q

-- ---- the checks of terms whose postings pass are those of their names

bind_same : {A B : Type 0} (r : Answer A) (f g : A → Answer B) → ((a : A) → f a ≡ g a) → (r >>= f) ≡ (r >>= g)
bind_same (Ok a) f g e = e a
bind_same (Err x) f g e = refl

pub names_decide_terms : (documents : List Document) (previous : Option (List ℕ)) (ts : List Term)
    → ((t : Term) → t ∈ ts → (0 < length t.postings) × (check_postings documents None t.postings ≡ Ok tt))
    → check_terms documents previous ts ≡ check_used previous (map (λ t. t.name) ts)
unfolding check_terms check_used
names_decide_terms documents previous [] each = refl
names_decide_terms documents previous (t ∷ ts) each =
    let (has, passes) = each t (inl refl) in
    bind_same (check_name previous t.name) _ _
    (λ _. rw (lt-ltb 0 (length t.postings) has, passes)
    (names_decide_terms documents (Some t.name) ts (λ u m. each u (inr m))))
