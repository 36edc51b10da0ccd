-- Names decoded: under each stand its postings, and naming one again changes neither that nor what is refused.
-- Assumes nothing.
use Rattle.std.specs.Prelude.{Err, Ok}
use mathlib.Core.Path.{◌≡◌, refl, sym, ap, ◌∙◌}
use mathlib.Core.Bool.{false}
use mathlib.Core.List.{List, [], ◌∷◌, ◌++◌, map}
use mathlib.Core.Logic.{◌⊎◌, inl, inr, ◌↔◌}
use Prim.Native.Nat.{ℕ}
use native.Mathlib.Omega.{arith}
use Rattle.common.proofs.Loops.{true_false}
use Rattle.segment.specs.declared.refusal.Refusal.{Refusal}
use Rattle.segment.specs.Results.{Answer, ◌>>=◌}
use Rattle.segment.specs.Records.{Posting, Term, Segment}
use Rattle.segment.specs.Names.{same}
use Rattle.calls.specs.Lookups.{postings_of}
use Rattle.common.specs.Members.{kept}
use Rattle.common.specs.Elements.{◌∈◌}
use Rattle.rules.specs.Different.{different}
use Rattle.calls.specs.Questions.{under, decode_names}
use Rattle.segment.proofs.Strings.{same_refl, same_is, apart}
use Rattle.segment.proofs.Binds.{bind_gives}
use Rattle.rules.proofs.Different.{other, by_name, different_are}

abbrev pub term : List ℕ → List Posting → Term
term n ps = record { name = n; postings = ps }

-- accepted, or its refusal
abbrev pub verdict : {A : Type 0} → Answer A → Answer (Unit {0})
verdict (Ok a) = Ok tt
verdict (Err x) = Err x

module _ {A : Type 0} where
  pub verdict_refused : (r : Answer A) {x : Refusal} → (r ≡ Err x) ↔ (verdict r ≡ Err x)
  verdict_refused (Ok a) = (λ e. cc, λ e. cc)
  verdict_refused (Err y) = (λ e. cc, λ e. cc)

  pub verdict_ok : (r : Answer A) → verdict r ≡ Ok tt → (a : A) × (r ≡ Ok a)
  verdict_ok (Ok a) e = (a, refl)
  verdict_ok (Err x) e = let z : ◌≡◌ {A = ℕ} 0 1 = cc in absurd (omega arith)

-- ---- what stands under a name

module _ (ts : List Term) where
  pub under_here : (n : List ℕ) (ps : List Posting) → under (term n ps ∷ ts) n ≡ ps
  unfolding under
  under_here n ps = rw (same_refl n)

  pub under_later : (m n : List ℕ) (ps : List Posting) → same m n ≡ false → under (term m ps ∷ ts) n ≡ under ts n
  unfolding under
  under_later m n ps e = rw e

module _ (s : Segment) where
  -- the first of the names, and the others
  record Decoded (m : List ℕ) (ms : List (List ℕ)) (ts : List Term) : Type 0 where
    postings : List Posting
    more : List Term
    here : postings_of s m ≡ Ok postings
    later : decode_names s ms ≡ Ok more
    are : ts ≡ term m postings ∷ more

  decoded : (m : List ℕ) (ms : List (List ℕ)) {ts : List Term} → decode_names s (m ∷ ms) ≡ Ok ts → Decoded m ms ts
  unfolding decode_names
  decoded m ms e =
      let (ps, a, f) = bind_gives (postings_of s m) _ e in
      let (more, b, g) = bind_gives (decode_names s ms) _ f in
      record { postings = ps; more = more; here = a; later = b; are = cc }

  pub decoded_under : (ms : List (List ℕ)) (ts : List Term) → decode_names s ms ≡ Ok ts
      → (n : List ℕ) → n ∈ ms → postings_of s n ≡ Ok (under ts n)
  decoded_under [] ts e n m = absurd m
  decoded_under (k ∷ ks) ts e n m =
      let d = decoded k ks e in
      rw d.are (step d.postings d.more d.here (by_name k n) m (decoded_under ks d.more d.later n))
    where
      step : (ps : List Posting) (more : List Term) → postings_of s k ≡ Ok ps → (k ≡ n) ⊎ (same k n ≡ false) → n ∈ (k ∷ ks)
          → (n ∈ ks → postings_of s n ≡ Ok (under more n)) → postings_of s n ≡ Ok (under (term k ps ∷ more) n)
      step ps more a (inl q) m later = rw (← q, under_here more k ps) a
      step ps more a (inr q) (inl r) later = true_false (sym ((same_is k n).1 (sym r)) ∙ q)
      step ps more a (inr q) (inr j) later = rw (under_later more k n ps q) (later j)

  pub asked_under : (ns : List (List ℕ)) (ts : List Term) → decode_names s (different ns) ≡ Ok ts
      → (n : List ℕ) → n ∈ ns → postings_of s n ≡ Ok (under ts n)
  asked_under ns ts e n m = decoded_under (different ns) ts e n ((different_are ns n).1 m)

  -- a name that was not decoded has nothing under it
  pub not_under : (ms : List (List ℕ)) (ts : List Term) → decode_names s ms ≡ Ok ts → (n : List ℕ) → (n ∈ ms → ⊥) → under ts n ≡ []
  unfolding under decode_names
  not_under [] ts e n out = let is : [] ≡ ts = cc in rw (← is)
  not_under (k ∷ ks) ts e n out =
      let d = decoded k ks e in
      rw (d.are, apart k n (λ q. out (inl (sym q)))) (not_under ks d.more d.later n (λ m. out (inr m)))

  -- ---- what is refused

  pub decodes_more : (m : List ℕ) (ms : List (List ℕ))
      → verdict (decode_names s (m ∷ ms)) ≡ (postings_of s m >>= λ ps. verdict (decode_names s ms))
  unfolding decode_names
  decodes_more m ms = step (postings_of s m) (decode_names s ms)
    where
      step : (r : Answer (List Posting)) (t : Answer (List Term))
          → verdict (r >>= λ ps. t >>= λ more. Ok (term m ps ∷ more)) ≡ (r >>= λ ps. verdict t)
      step (Ok ps) (Ok more) = refl
      step (Ok ps) (Err x) = refl
      step (Err x) (Ok more) = refl
      step (Err x) (Err y) = refl

  -- a name that was decoded may be left out later
  left_out : (n : List ℕ) {ps : List Posting} → postings_of s n ≡ Ok ps
      → (ms : List (List ℕ)) → verdict (decode_names s ms) ≡ verdict (decode_names s (kept (other n) ms))
  unfolding kept
  left_out n a [] = refl
  left_out n a (m ∷ ms) = step (by_name n m) (left_out n a ms)
    where
      step : (n ≡ m) ⊎ (same n m ≡ false) → verdict (decode_names s ms) ≡ verdict (decode_names s (kept (other n) ms))
          → verdict (decode_names s (m ∷ ms)) ≡ verdict (decode_names s (kept (other n) (m ∷ ms)))
      step (inl q) later = rw ((same_is n m).1 q, decodes_more m ms, ← q, a) later
      step (inr q) later = rw (q, decodes_more m ms, decodes_more m (kept (other n) ms), later)

  pub decodes_alike : (ns : List (List ℕ)) → verdict (decode_names s ns) ≡ verdict (decode_names s (different ns))
  unfolding different
  decodes_alike [] = refl
  decodes_alike (n ∷ ns) =
      decodes_more n ns ∙ step (postings_of s n) refl (decodes_alike ns) ∙ sym (decodes_more n (kept (other n) (different ns)))
    where
      step : (r : Answer (List Posting)) → postings_of s n ≡ r → verdict (decode_names s ns) ≡ verdict (decode_names s (different ns))
          → (r >>= λ ps. verdict (decode_names s ns)) ≡ (r >>= λ ps. verdict (decode_names s (kept (other n) (different ns))))
      step (Ok ps) a later = later ∙ left_out n a (different ns)
      step (Err x) a later = refl

  pub refused_alike : (ns : List (List ℕ)) (x : Refusal) → (decode_names s ns ≡ Err x) ↔ (decode_names s (different ns) ≡ Err x)
  refused_alike ns x =
      let a = verdict_refused (decode_names s ns) {x = x} in
      let b = verdict_refused (decode_names s (different ns)) {x = x} in
      (λ e. b.1 (sym (decodes_alike ns) ∙ a.0 e), λ e. a.1 (decodes_alike ns ∙ b.0 e))

  pub decoded_alike : (ns : List (List ℕ))
      → ((ts : List Term) × (decode_names s ns ≡ Ok ts)) ↔ ((ts : List Term) × (decode_names s (different ns) ≡ Ok ts))
  decoded_alike ns = (
    λ (ts, e). verdict_ok (decode_names s (different ns)) (sym (decodes_alike ns) ∙ ap verdict e),
    λ (ts, e). verdict_ok (decode_names s ns) (decodes_alike ns ∙ ap verdict e),
  )

  -- ---- names after names

  pub decode_append : (ms ks : List (List ℕ))
      → decode_names s (ms ++ ks) ≡ (decode_names s ms >>= λ ts. decode_names s ks >>= λ us. Ok (ts ++ us))
  unfolding decode_names
  decode_append [] ks = step (decode_names s ks)
    where
      step : (u : Answer (List Term)) → u ≡ (u >>= λ us. Ok us)
      step (Ok us) = refl
      step (Err x) = refl
  decode_append (m ∷ ms) ks = rw (decode_append ms ks) (step (postings_of s m) (decode_names s ms) (decode_names s ks))
    where
      step : (r : Answer (List Posting)) (t u : Answer (List Term))
          → (r >>= λ ps. (t >>= λ ts. u >>= λ us. Ok (ts ++ us)) >>= λ more. Ok (term m ps ∷ more))
          ≡ ((r >>= λ ps. t >>= λ more. Ok (term m ps ∷ more)) >>= λ ts. u >>= λ us. Ok (ts ++ us))
      step (Ok ps) (Ok ts) (Ok us) = refl
      step (Ok ps) (Ok ts) (Err x) = refl
      step (Ok ps) (Err x) u = refl
      step (Err x) t u = refl

  -- one name more at the end
  pub decode_one_more : (ms : List (List ℕ)) {ts : List Term} → decode_names s ms ≡ Ok ts
      → (n : List ℕ) {ps : List Posting} → postings_of s n ≡ Ok ps → decode_names s (ms ++ (n ∷ [])) ≡ Ok (ts ++ (term n ps ∷ []))
  unfolding decode_names
  decode_one_more ms e n a = rw (decode_append ms (n ∷ []), e, a)

  -- a refusal stands, whatever is named after it
  pub decode_refused : (ms : List (List ℕ)) {ts : List Term} → decode_names s ms ≡ Ok ts
      → (n : List ℕ) {x : Refusal} → postings_of s n ≡ Err x → (ks : List (List ℕ)) → decode_names s (ms ++ (n ∷ ks)) ≡ Err x
  unfolding decode_names
  decode_refused ms e n a ks = rw (decode_append ms (n ∷ ks), e, a)

  pub decoded_names : (ms : List (List ℕ)) {ts : List Term} → decode_names s ms ≡ Ok ts → map (λ t. t.name) ts ≡ ms
  unfolding decode_names
  decoded_names [] {ts} e = let is : [] ≡ ts = cc in rw (← is)
  decoded_names (m ∷ ms) e = let d = decoded m ms e in rw (d.are, decoded_names ms d.later)
