-- The checks a posting and a term at a time, as the code takes them; then all lists.
-- Assumes nothing.
use Rattle.std.specs.Prelude.{Err, None, Ok, Option, Some}
use mathlib.Core.Path.{◌≡◌, refl, sym, ap, ◌∙◌}
use mathlib.Core.Bool.{Bool, true, false, not}
use mathlib.Core.List.{List}
use Prim.Native.Nat.{ℕ, ◌+◌, ◌≤◌, ◌<◌}
use native.Mathlib.Omega.{arith}
use lib.Dec.{ltb}
use lib.ListN.{length, drop, get_or}
use borrow.Author.Tests.{lt-ltb, not-true, not-false}
use Rattle.segment.specs.declared.refusal.Refusal.{Refusal}
use Rattle.segment.specs.Refusals.{too_large, list_shape, invalid_layout, empty_term_posting_list}
use Rattle.segment.specs.Results.{Answer, ◌>>=◌, check}
use Rattle.segment.specs.Records.{Document, Posting, Term, between}
use Rattle.segment.specs.Metadata.{document}
use Rattle.segment.specs.Steps.{checked}
use Rattle.segment.specs.Written.{lists_bytes}
use Rattle.write_check_all.specs.declared.walk.Walk.{Walk}
use Rattle.calls.specs.Given.{Lists, given, posting, postings_in}
use Rattle.common.specs.Lists.{paired}
use Rattle.calls.specs.Checks.{check_documents, check_posting, check_postings, check_name, check_terms, check_given, small, shaped}
use Rattle.calls.specs.Checks.{check_lists}
use Rattle.write_check_all.specs.Steps.{terms_from, start_walk, Checkable, measured_lists}
use Rattle.segment.proofs.Binds.{bind_gives}
use Rattle.segment.proofs.Accepted.{check_gives, passed_ok}
use Rattle.segment.proofs.Inversions.{stops, goes_on}
use Rattle.write_lookup.proofs.Searching.{rises_by_place}
use Rattle.calls.proofs.Accepted.{documents_give}
use Rattle.write_checks.specs.Steps.{measured}
use Rattle.write_checks.proofs.Measuring.{measured_alike}
use Rattle.calls.proofs.Passing.{shaped_gives}
use Rattle.common.proofs.Pairs.{lefts}
use Rattle.write_check_all.proofs.Walking.{postings_step, end_of, count_of, last_of, name_at, postings_at}
use Rattle.write_check_all.proofs.Walking.{postings_to, next_in, WalkFits, postings_given, postings_count, terms_start}
use Rattle.write_check_all.proofs.Walking.{terms_step, terms_end}

-- ---- postings

-- the postings from an index on; `at` is where the positions of the next one start, and n how many it has
abbrev pub posting_in : (ids positions : List ℕ) (i at n : ℕ) → Posting
posting_in ids positions i at n = posting (get_or ids i 0) (between at (at + n) positions)

module _ (documents : List Document) (ids counts positions : List ℕ) (e : length ids ≡ length counts) (i at : ℕ) (previous : Option ℕ)
    {whole : (Answer (Unit {0}))}
    (inv : checked (check_postings documents previous (postings_in (drop i ids) (drop i counts) (drop at positions))) ≡ whole) where
  module _ (h : i < length ids) {n : ℕ} (is : n ≡ get_or counts i 0) where
    pub postings_next : (Ok tt) ≡ checked (check_posting documents previous (posting_in ids positions i at n))
        → checked (check_postings documents (Some (get_or ids i 0))
        (postings_in (drop (i + 1) ids) (drop (i + 1) counts) (drop (at + n) positions)))
        ≡ whole
    unfolding check_postings
    postings_next p =
        goes_on (check_posting documents previous (posting_in ids positions i at n)) _
        (rw (postings_step ids counts positions i at h (omega arith), ← is) at inv) p

    pub postings_stop : {x : Refusal} → Err x ≡ checked (check_posting documents previous (posting_in ids positions i at n))
        → Err x ≡ whole
    unfolding check_postings
    postings_stop p =
        stops (check_posting documents previous (posting_in ids positions i at n)) _
        (rw (postings_step ids counts positions i at h (omega arith), ← is) at inv) p

-- ---- the terms from a point of the walk on

module _ (documents : List Document) (l : Lists) (k : Checkable l) (w : Walk) (f : WalkFits w l) (previous : Option (List ℕ))
    {whole : (Answer (Unit {0}))}
    (inv : checked (check_terms documents previous (terms_from w l)) ≡ whole) where
  module _ (h : w.term < length l.ends) {end : ℕ} (is_end : end ≡ end_of w l) where
    after_name : Answer (Unit {0})
    after_name = do
      _ ← check (ltb 0 (count_of w l)) (invalid_layout empty_term_posting_list)
      _ ← check_postings documents None (postings_at w l)
      check_terms documents (Some (name_at w l)) (terms_from (next_in w l) l)

    turn : checked (check_name previous (between w.name end l.text) >>= λ _. after_name) ≡ whole
    unfolding check_terms after_name
    turn = rw is_end (rw (terms_step l k w f h, postings_count l k w f h) at inv)

    pub terms_name_stop : {x : Refusal} → Err x ≡ checked (check_name previous (between w.name end l.text)) → Err x ≡ whole
    terms_name_stop e = stops (check_name previous (between w.name end l.text)) _ turn e

    module _ (n : (Ok tt) ≡ checked (check_name previous (between w.name end l.text))) where
      behind : checked after_name ≡ whole
      behind = goes_on (check_name previous (between w.name end l.text)) _ turn n

      pub terms_empty : count_of w l ≡ 0 → Err (invalid_layout empty_term_posting_list) ≡ whole
      unfolding after_name
      terms_empty z = rw z at behind

      module _ (z : count_of w l ≡ 0 → ⊥) {last : ℕ} (is_last : last ≡ last_of w l) where
        postings_turn : checked (check_postings documents None (postings_to last w l)
            >>= λ _. check_terms documents (Some (name_at w l)) (terms_from (next_in w l) l)) ≡ whole
        unfolding after_name
        postings_turn =
            rw (postings_given l k w f h is_last) (rw (lt-ltb 0 (count_of w l) (omega arith)) at behind)

        pub terms_stop : {x : Refusal} → Err x ≡ checked (check_postings documents None (postings_to last w l)) → Err x ≡ whole
        terms_stop e = stops (check_postings documents None (postings_to last w l)) _ postings_turn e

        pub terms_next : (Ok tt) ≡ checked (check_postings documents None (postings_to last w l)) → {m : Walk} → m ≡ next_in w l
            → checked (check_terms documents (Some (between w.name end l.text)) (terms_from m l)) ≡ whole
        terms_next e is = rw (is, is_end) (goes_on (check_postings documents None (postings_to last w l)) _ postings_turn e)

  pub terms_done : length l.ends ≤ w.term → (Ok tt) ≡ whole
  unfolding check_terms
  terms_done h = rw (terms_end l k w f h) at inv

-- ---- the lists

module _ (l : Lists) where
  -- documents that passed have rising ids, so the checks of terms have what they rest on
  rest_on : small l ≡ true → shaped l ≡ true → check_documents None (paired document l.ids l.lengths) ≡ Ok tt → Checkable l
  rest_on s p d =
      let ids = lefts document (λ d. d.id) (λ x y. refl) l.ids l.lengths (shaped_gives l p).documents in
      record { small = s; shaped = p; rises = rises_by_place l.ids (rw ids at (documents_give None _ d)) }

  -- what follows the check has it too
  pub passed_checkable : (Ok tt) ≡ checked (check_lists l) → Checkable l
  unfolding check_lists check_given given
  passed_checkable e =
      let r₁ = check_gives (small l) _ _ (passed_ok (check_lists l) e).1 in
      let r₂ = check_gives (shaped l) _ _ r₁.1 in
      let r₃ = bind_gives (check_documents None (paired document l.ids l.lengths)) _ r₂.1 in
      rest_on r₁.0 r₂.0 r₃.1

  module _ {s : Bool} (is_s : s ≡ small l) where
    pub lists_large : not s ≡ true → Err too_large ≡ checked (check_lists l)
    unfolding check_lists
    lists_large n = rw (← is_s, not-true s n)

    module _ (n : not s ≡ false) {p : Bool} (is_p : p ≡ shaped l) where
      fine : small l ≡ true
      fine = sym is_s ∙ not-false s n

      pub lists_unshaped : not p ≡ true → Err list_shape ≡ checked (check_lists l)
      unfolding check_lists
      lists_unshaped m = rw (fine, ← is_p, not-true p m)

      module _ (m : not p ≡ false) where
        fits : shaped l ≡ true
        fits = sym is_p ∙ not-false p m

        whole : checked (check_documents None (paired document l.ids l.lengths)
            >>= λ _. check_terms (paired document l.ids l.lengths) None (terms_from start_walk l)) ≡ checked (check_lists l)
        unfolding check_lists check_given given
        whole = rw (fine, fits, terms_start l)

        pub lists_documents : {x : Refusal} → Err x ≡ checked (check_documents None (paired document l.ids l.lengths))
            → Err x ≡ checked (check_lists l)
        lists_documents e = stops (check_documents None (paired document l.ids l.lengths)) _ whole e

        module _ (d : (Ok tt) ≡ checked (check_documents None (paired document l.ids l.lengths))) where
          pub lists_checkable : Checkable l
          lists_checkable = rest_on fine fits (passed_ok _ d).1

          pub lists_terms : checked (check_terms (paired document l.ids l.lengths) None (terms_from start_walk l))
              ≡ checked (check_lists l)
          lists_terms = goes_on (check_documents None (paired document l.ids l.lengths)) _ whole d

-- with the size of the lists
pub lists_sized : (l : Lists)
    → checked (check_terms (paired document l.ids l.lengths) None (terms_from start_walk l)) ≡ checked (check_lists l)
    → measured (check_terms (paired document l.ids l.lengths) None (terms_from start_walk l))
    (length (lists_bytes (terms_from start_walk l)))
    ≡ measured_lists l
lists_sized l e =
    measured_alike (check_terms (paired document l.ids l.lengths) None (terms_from start_walk l)) (check_lists l) _ e
    ∙ ap (λ (ts : List Term). measured (check_lists l) (length (lists_bytes ts))) (terms_start l)
