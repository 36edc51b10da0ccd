-- The claims of the lookup: its answer is what the words say and nothing else, and over a segment's lists it is that of the segment.
-- Assumes nothing.
use Rattle.std.specs.Prelude.{Err, None, Ok, Option, Some}
use mathlib.Core.Path.{◌≡◌, refl, sym, ap, ◌∙◌}
use mathlib.Core.Bool.{Bool, true, false, cond}
use mathlib.Core.List.{List, [], ◌∷◌}
use mathlib.Core.Logic.{⊎_elim}
use Prim.Native.Nat.{ℕ, suc, ◌≤◌}
use native.Mathlib.Omega.{arith}
use lib.Dec.{leb, eqb}
use lib.ListN.{length, length-map}
use borrow.Author.Tests.{eqb-true}
use Rattle.common.specs.Elements.{◌∈◌, Rising}
use Rattle.common.specs.Lists.{paired}
use Rattle.common.proofs.Membership.{place_of, at_place}
use Rattle.common.proofs.Pairs.{paired_back}
use Rattle.segment.specs.declared.refusal.Refusal.{Refusal}
use Rattle.segment.specs.Records.{Document}
use Rattle.segment.specs.Results.{Answer}
use Rattle.segment.specs.Metadata.{document, length_of}
use Rattle.segment.specs.Opening.{open_segment}
use Rattle.segment.proofs.Binds.{bind_gives, ok_same}
use Rattle.segment.proofs.Refused.{ok_refuse, refused_by}
use Rattle.segment.proofs.Accepted.{check_gives}
use Rattle.segment.proofs.ReadRising.{opened_rises}
use Rattle.calls.specs.Replies.{length_answer, ids_of, lengths_of}
use Rattle.calls.specs.Reads.{document_lengths, document_len}
use Rattle.write_lookup.proofs.Searching.{rises_by_place, length_found, length_missing}
use Rattle.length_lookup.specs.Lookup.{check_ids_and_lengths, looked_up}
use Rattle.length_lookup.specs.Words.{Beside, RisingLists, Answers}
use Rattle.length_lookup.specs.Claims.{LookupExactly, AsInTheSegment}
use Rattle.length_lookup.proofs.Checking.{passed_gives, passed_from, refused_gives, refused_from}
use Rattle.length_lookup.proofs.Looking.{there, refused_on, passed_on, known_on, absent_on}

none_some : {A B : Type 0} {x : A} → None ≡ Some x → B
none_some e = let z : ◌≡◌ {A = ℕ} 0 1 = cc in absurd (omega arith)

-- ---- a length that was found, by its place

beside_gives : (ids lengths : List ℕ) (id n : ℕ) → length_of (paired document ids lengths) id ≡ Some n → Beside ids lengths id n
unfolding length_of
beside_gives [] ys id n e = none_some e
beside_gives (x ∷ xs) [] id n e = none_some e
beside_gives (x ∷ xs) (y ∷ ys) id n e = by_test (eqb x id) refl e (beside_gives xs ys id n)
  where
    by_test : (t : Bool) → eqb x id ≡ t → cond t (Some y) (length_of (paired document xs ys) id) ≡ Some n
        → (length_of (paired document xs ys) id ≡ Some n → Beside xs ys id n) → Beside (x ∷ xs) (y ∷ ys) id n
    by_test true q h later = record { place = 0; inside = omega arith; here = eqb-true x id q; beside = cc }
    by_test false q h later =
        let b = later h in
        record { place = suc b.place; inside = omega (arith, b.inside); here = b.here; beside = b.beside }

-- ---- in words

module _ (ids lengths : List ℕ) (id : ℕ) where
  passed_by : {o : Option ℕ} → looked_up ids lengths id ≡ Ok o → RisingLists ids lengths × (there ids lengths id ≡ o)
  unfolding looked_up
  passed_by e =
      let (_, passed, same) = bind_gives (check_ids_and_lengths ids lengths) _ e in
      (passed_gives ids lengths passed, ok_same same)

  refused_for : {x : Refusal} → looked_up ids lengths id ≡ Err x → check_ids_and_lengths ids lengths ≡ Err x
  unfolding looked_up
  refused_for e = ⊎_elim (λ h. h) (λ (_, _, h). ok_refuse h) (refused_by (check_ids_and_lengths ids lengths) _ e)

  known_from : {n : ℕ} → RisingLists ids lengths → Beside ids lengths id n → there ids lengths id ≡ Some n
  known_from (s, r) b =
      length_found ids lengths id b.place (rises_by_place ids r) s.same b.here b.inside ∙ ap Some b.beside

  absent_gives : RisingLists ids lengths → there ids lengths id ≡ None → id ∈ ids → ⊥
  absent_gives r e m =
      let (i, h, q) = place_of 0 ids id m in
      none_some (sym e ∙ known_from r (record { place = i; inside = h; here = q; beside = refl }))

  absent_from : (id ∈ ids → ⊥) → there ids lengths id ≡ None
  absent_from lacks = length_missing ids lengths id (λ k h e. lacks (rw e at (at_place 0 ids k h)))

  answer_gives : (a : Answer (Option ℕ)) → looked_up ids lengths id ≡ a → Answers ids lengths id (length_answer a)
  answer_gives (Ok None) e = let (r, t) = passed_by e in (r, absent_gives r t)
  answer_gives (Ok (Some n)) e = let (r, t) = passed_by e in (r, beside_gives ids lengths id n t)
  answer_gives (Err x) e = refused_gives ids lengths (refused_for e)

  answer_from : (r : Answer (Option ℕ)) → Answers ids lengths id r → r ≡ length_answer (looked_up ids lengths id)
  answer_from ((Ok (Some n))) (r, b) = known_on ids lengths id (passed_from ids lengths r) (sym (known_from r b))
  answer_from (Ok None) (r, lacks) = absent_on ids lengths id (passed_from ids lengths r) (sym (absent_from lacks))
  answer_from (Err x) f = rw (refused_on ids lengths id (refused_from ids lengths f))

pub lookup_exactly : LookupExactly
lookup_exactly ids lengths id r = (
  λ e. rw e (answer_gives ids lengths id (looked_up ids lengths id) refl),
  answer_from ids lengths id r,
)

-- ---- over the lists of a segment

documents_rise : (ds : List Document) → length ds ≤ 16777216 → Rising (ids_of ds) → RisingLists (ids_of ds) (lengths_of ds)
documents_rise ds few r =
    let i : length (ids_of ds) ≡ length ds = length-map ds (λ d. d.id) in
    let l : length (lengths_of ds) ≡ length ds = length-map ds (λ d. d.len) in
    (record { small = (omega arith, omega arith); same = omega arith }, r)

documents_back : (ds : List Document) → paired document (ids_of ds) (lengths_of ds) ≡ ds
documents_back ds = paired_back (λ d. d.id) (λ d. d.len) document (λ d. refl) ds

over_documents : (ds : List Document) → length ds ≤ 16777216 → Rising (ids_of ds) → (id : ℕ)
    → looked_up (ids_of ds) (lengths_of ds) id ≡ Ok (length_of ds id)
over_documents ds few r id =
    passed_on (ids_of ds) (lengths_of ds) id (passed_from (ids_of ds) (lengths_of ds) (documents_rise ds few r))
    ∙ ap (λ (l : List Document). Ok (length_of l id)) (documents_back ds)

pub as_in_the_segment : AsInTheSegment
unfolding document_lengths document_len
as_in_the_segment bytes room₁ room₂ ds e few id =
    let (s, opens, f) = bind_gives (open_segment bytes) _ e in
    let g = (check_gives (leb (length s.documents) room₁) _ _ f).1 in
    let same : s.documents ≡ ds = ok_same (check_gives (leb (length s.documents) room₂) _ _ g).1 in
    over_documents ds few (rw (← same) (opened_rises bytes opens)) id ∙ rw (opens, same)
