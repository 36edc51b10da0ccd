-- Names rise, and documents rise under a name: so each stands once, and own positions are those of one list, as the search finds it.
-- Assumes nothing.
use mathlib.Core.Path.{◌≡◌, refl, sym, ◌∙◌}
use mathlib.Core.Bool.{Bool, true, false, cond}
use mathlib.Core.List.{List, [], ◌∷◌, ◌++◌, map, append-nil}
use mathlib.Core.Logic.{inl, inr}
use Prim.Native.Nat.{ℕ, ◌<◌}
use native.Mathlib.Omega.{arith}
use lib.Dec.{eqb}
use borrow.Author.Tests.{eqb-true, ne_eqb}
use Rattle.common.proofs.Loops.{true_false}
use Rattle.segment.specs.Records.{Posting, Term}
use Rattle.segment.specs.Names.{same, precedes}
use Rattle.segment.proofs.Strings.{same_is, apart, precedes_is, precedes_transitive, precedes_apart}
use Rattle.calls.specs.Lookups.{positions_of}
use Rattle.calls.specs.Given.{Lists, given}
use Rattle.calls.specs.Acceptance.{NamesRising, ListsFine}
use Rattle.common.specs.Elements.{◌∈◌, Rising}
use Rattle.calls.specs.Questions as search
use Rattle.common.proofs.Elements.{rising_tail, rising_above}
use Rattle.calls.proofs.Posted.{docs}
use Rattle.claim_joint.specs.Own.{own_of, own_under, own}

none_of : (ps : List Posting) (d : ℕ) → ((x : ℕ) → x ∈ docs ps → d < x) → own_of ps d ≡ []
unfolding own_of
none_of [] d up = refl
none_of (p ∷ ps) d up =
    let above = up p.doc (inl refl) in
    rw (ne_eqb p.doc d (λ e. omega arith)) (none_of ps d (λ x m. up x (inr m)))

of_one : (ps : List Posting) (d : ℕ) → Rising (docs ps) → own_of ps d ≡ positions_of ps d
unfolding own_of positions_of
of_one [] d r = refl
of_one (p ∷ ps) d r = step (eqb p.doc d) refl (of_one ps d (rising_tail p.doc (docs ps) r))
  where
    step : (t : Bool) → eqb p.doc d ≡ t → own_of ps d ≡ positions_of ps d
        → cond t (p.positions ++ own_of ps d) (own_of ps d) ≡ cond t p.positions (positions_of ps d)
    step true e later =
        let is = eqb-true p.doc d e in
        rw (none_of ps d (λ x m. rw is at (rising_above p.doc (docs ps) r x m))) (append-nil p.positions)
    step false e later = later

abbrev named : List Term → List (List ℕ)
named ts = map (λ t. t.name) ts

pub names_above : (n : List ℕ) (ns : List (List ℕ)) → NamesRising (n ∷ ns) → (m : List ℕ) → m ∈ ns → precedes n m ≡ true
names_above n [] r m k = absurd k
names_above n (x ∷ ns) r m (inl e) = rw e ((precedes_is n x).1 r.0)
names_above n (x ∷ ns) r m (inr k) = precedes_transitive n x m ((precedes_is n x).1 r.0) (names_above x ns r.1 m k)

pub names_tail : (n : List ℕ) (ns : List (List ℕ)) → NamesRising (n ∷ ns) → NamesRising ns
names_tail n [] r = tt
names_tail n (x ∷ ns) r = r.1

none_under : (ts : List Term) (d : ℕ) (n : List ℕ) → ((m : List ℕ) → m ∈ named ts → same m n ≡ false) → own_under ts d n ≡ []
unfolding own_under
none_under [] d n apart = refl
none_under (t ∷ ts) d n apart = rw (apart t.name (inl refl)) (none_under ts d n (λ m k. apart m (inr k)))

pub under_one : (ts : List Term) (d : ℕ) (n : List ℕ) → NamesRising (map (λ t. t.name) ts)
    → ((t : Term) → t ∈ ts → Rising (docs t.postings)) → own_under ts d n ≡ search.decoded_positions ts d n
unfolding own_under search.under positions_of
under_one [] d n r each = refl
under_one (t ∷ ts) d n r each =
    step (same t.name n) refl (under_one ts d n (names_tail t.name (named ts) r) (λ u m. each u (inr m)))
  where
    others : t.name ≡ n → (m : List ℕ) → m ∈ named ts → same m n ≡ false
    others is m k =
        let far = precedes_apart n m (rw is at (names_above t.name (named ts) r m k)) in
        apart m n (λ e. true_false (sym ((same_is n m).1 (sym e)) ∙ far))

    step : (b : Bool) → same t.name n ≡ b → own_under ts d n ≡ search.decoded_positions ts d n
        → cond b (own_of t.postings d ++ own_under ts d n) (own_under ts d n) ≡ positions_of (cond b t.postings (search.under ts n)) d
    step true e later =
        rw (none_under ts d n (others ((same_is t.name n).0 e)), append-nil) (of_one t.postings d (each t (inl refl)))
    step false e later = later

pub own_is : (l : Lists) → ListsFine l → (d : ℕ) (n : List ℕ) → own l d n ≡ search.decoded_positions (given l).terms d n
own_is l h d n = under_one (given l).terms d n h.names_rise (λ t m. (h.each t m).rising)
