-- What the bytes hold rises strictly, and is no more than was asked for.
-- Assumes nothing.
use Rattle.std.specs.Prelude.{Err, None, Ok, Option, Some}
use Prim.Native.Nat.{ℕ, zero, suc, ◌^◌, ◌≤◌}
use mathlib.Core.Path.{◌≡◌, refl, ap}
use mathlib.Core.List.{List, [], ◌∷◌}
use mathlib.Core.Bool.{true}
use native.Mathlib.Omega.{arith}
use lib.Dec.{ltb}
use lib.ListN.{length, drop}
use borrow.Author.Tests.{ltb-true}
use Rattle.segment.specs.declared.refusal.Refusal.{Refusal}
use Rattle.segment.specs.Refusals.{postings}
use Rattle.segment.specs.Results.{Answer}
use Rattle.segment.specs.Records.{Read, number, at_gap, rises}
use Rattle.segment.specs.Postings.{read_value}
use Rattle.read_cursors.specs.Held.{skipped, PostingAt, on_value, on_posting, value_at, posting_here, held_postings, held_positions}
use Rattle.segment.proofs.Binds.{bind_gives, both_gives}
use Rattle.read_cursors.specs.Steps.{positions_at, postings_at}

-- keys that rise strictly, none below low
abbrev pub Rises : {A : Type 0} → (A → ℕ) → ℕ → List A → Type 0
Rises key low [] = Unit {0}
Rises key low (x ∷ l) = (low ≤ key x) × Rises key (suc (key x)) l

-- the least value after another
abbrev pub above : Option ℕ → ℕ
above None = 0
above (Some p) = suc p

rises_above : (previous : Option ℕ) (v : ℕ) → rises previous v ≡ true → above previous ≤ v
rises_above None v e = omega arith
rises_above (Some p) v e = omega (arith, ltb-true p v e)

pub value_above : (over order : Refusal) (index : ℕ) (previous : Option ℕ) (bytes : List ℕ) {v : Read ℕ}
    → read_value over order index previous bytes ≡ Ok v → above previous ≤ v.got
unfolding read_value
value_above over order index previous bytes e =
    let (g, is, f) = bind_gives (number postings index bytes) _ e in
    let w = at_gap previous g.got in
    let r = both_gives (ltb w (2 ^ 32)) (rises previous w) over order (record { got = w; rest = g.rest }) f in
    omega (arith, rises_above previous w r.1, ap (λ (x : Read ℕ). x.got) r.2)

pub positions_rise : (n : ℕ) (previous : Option ℕ) (bytes : List ℕ)
    → Rises (λ (p : ℕ). p) (above previous) (held_positions n previous bytes)
unfolding held_positions
positions_rise zero previous bytes = tt
positions_rise (suc n) previous bytes = go (value_at previous bytes) refl (λ p b. positions_rise n (Some p) b)
  where
    go : (r : Answer (Read ℕ)) → value_at previous bytes ≡ r
        → ((p : ℕ) (b : List ℕ) → Rises (λ (p : ℕ). p) (suc p) (held_positions n (Some p) b))
        → Rises (λ (p : ℕ). p) (above previous) (on_value (λ v. held_positions n (Some v.got) v.rest) r)
    go (Ok v) e ih = (value_above _ _ _ previous bytes e, ih v.got v.rest)
    go (Err x) e ih = tt

-- a posting's document is above the one before
spot_above : (previous : Option ℕ) (bytes : List ℕ) {x : PostingAt} → posting_here previous bytes ≡ Ok x → above previous ≤ x.doc
unfolding posting_here
spot_above previous bytes e =
    let (v, is, f) = bind_gives (value_at previous bytes) _ e in
    let (k, has, g) = bind_gives (number postings 0 v.rest) _ f in
    let same : v.got ≡ _ = ap doc_of g in
    omega (arith, value_above _ _ _ previous bytes is)
  where
    doc_of : Answer PostingAt → ℕ
    doc_of (Ok s) = s.doc
    doc_of (Err x) = 0

pub postings_rise : (n : ℕ) (previous : Option ℕ) (bytes : List ℕ)
    → Rises (λ (x : PostingAt). x.doc) (above previous) (held_postings n previous bytes)
unfolding held_postings
postings_rise zero previous bytes = tt
postings_rise (suc n) previous bytes = go (posting_here previous bytes) refl (λ d b. postings_rise n (Some d) b)
  where
    go : (r : Answer PostingAt) → posting_here previous bytes ≡ r
        → ((d : ℕ) (b : List ℕ) → Rises (λ (x : PostingAt). x.doc) (suc d) (held_postings n (Some d) b))
        → Rises (λ (x : PostingAt). x.doc) (above previous)
        (on_posting (λ s. held_postings n (Some s.doc) (skipped s.count s.bytes)) r)
    go (Ok s) e ih = (spot_above previous bytes e, ih s.doc (skipped s.count s.bytes))
    go (Err x) e ih = tt

pub positions_few : (n : ℕ) (previous : Option ℕ) (bytes : List ℕ) → length (held_positions n previous bytes) ≤ n
unfolding held_positions
positions_few zero previous bytes = omega arith
positions_few (suc n) previous bytes = go (value_at previous bytes) (λ p b. positions_few n (Some p) b)
  where
    go : (r : Answer (Read ℕ)) → ((p : ℕ) (b : List ℕ) → length (held_positions n (Some p) b) ≤ n)
        → length (on_value (λ v. held_positions n (Some v.got) v.rest) r) ≤ suc n
    go (Ok v) ih = omega (arith, ih v.got v.rest)
    go (Err x) ih = omega arith

pub postings_few : (n : ℕ) (previous : Option ℕ) (bytes : List ℕ) → length (held_postings n previous bytes) ≤ n
unfolding held_postings
postings_few zero previous bytes = omega arith
postings_few (suc n) previous bytes = go (posting_here previous bytes) (λ d b. postings_few n (Some d) b)
  where
    go : (r : Answer PostingAt) → ((d : ℕ) (b : List ℕ) → length (held_postings n (Some d) b) ≤ n)
        → length (on_posting (λ s. held_postings n (Some s.doc) (skipped s.count s.bytes)) r) ≤ suc n
    go (Ok s) ih = omega (arith, ih s.doc (skipped s.count s.bytes))
    go (Err x) ih = omega arith

-- the same from a cursor on
module _ (s : List ℕ) where
  pub from_rise : (remaining at pos : ℕ) → Rises (λ (p : ℕ). p) pos (positions_at remaining at pos s)
  unfolding positions_at
  from_rise zero at pos = tt
  from_rise (suc n) at pos = (omega arith, positions_rise n (Some pos) (drop at s))

  pub from_rise_postings : (remaining at count doc : ℕ) → Rises (λ (x : PostingAt). x.doc) doc (postings_at remaining at count doc s)
  unfolding postings_at
  from_rise_postings zero at count doc = tt
  from_rise_postings (suc n) at count doc = (omega arith, postings_rise n (Some doc) (skipped count (drop at s)))

  pub from_few : (remaining at pos : ℕ) → length (positions_at remaining at pos s) ≤ remaining
  unfolding positions_at
  from_few zero at pos = omega arith
  from_few (suc n) at pos = omega (arith, positions_few n (Some pos) (drop at s))
