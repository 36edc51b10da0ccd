-- A question put to a segment whose lists decode to what was handed in: under each name stands what was handed in.
-- Assumes nothing.
use Rattle.std.specs.Prelude.{Ok, Some}
use mathlib.Core.Path.{◌≡◌, refl, sym, ap, ◌∙◌}
use mathlib.Core.Bool.{Bool, true, false, cond}
use mathlib.Core.List.{List, [], ◌∷◌, map}
use mathlib.Core.Logic.{inl, inr}
use Prim.Native.Nat.{ℕ}
use lib.ListN.{length}
use Rattle.segment.specs.Records.{Document, Term, Segment}
use Rattle.segment.specs.Names.{same}
use Rattle.segment.specs.Directory.{entry_of}
use Rattle.segment.specs.Postings.{decode}
use Rattle.calls.specs.Lookups.{found, postings_of}
use Rattle.segment.proofs.Binds.{ok_same}
use Rattle.roundtrip.proofs.PostingsBack.{entry_for}
use Rattle.common.specs.Elements.{◌∈◌}
use Rattle.rules.specs.declared.rule.Rule.{Rule}
use Rattle.rules.specs.Kinds.{idle}
use Rattle.rules.specs.Different.{different}
use Rattle.calls.specs.Questions.{under, decode_names, answer, answers}
use Rattle.calls.proofs.Decoding.{term, asked_under}
use Rattle.calls.proofs.Answering.{answer_same, answers_found}

abbrev pub Decodes : List Document → List Term → Type 0
Decodes documents ts = (t : Term) → t ∈ ts → decode documents (entry_for t) ≡ Ok t.postings

abbrev pub written : List Document → List Term → Segment
written documents ts = record { documents = documents; entries = map entry_for ts }

found_back : (documents : List Document) (ts : List Term) → Decodes documents ts
    → (n : List ℕ) → found documents (entry_of (map entry_for ts) n) ≡ Ok (under ts n)
unfolding entry_of under
found_back documents [] each n = refl
found_back documents (t ∷ ts) each n = step (same t.name n) (found_back documents ts (λ u m. each u (inr m)) n)
  where
    step : (b : Bool) → found documents (entry_of (map entry_for ts) n) ≡ Ok (under ts n)
        → found documents (cond b (Some (entry_for t)) (entry_of (map entry_for ts) n)) ≡ Ok (cond b t.postings (under ts n))
    step true later = each t (inl refl)
    step false later = later

module _ (documents : List Document) (ts : List Term) (each : Decodes documents ts) where
  pub postings_back : (n : List ℕ) → postings_of (written documents ts) n ≡ Ok (under ts n)
  unfolding postings_of
  postings_back n = found_back documents ts each n

  pub names_back : (ns : List (List ℕ)) → decode_names (written documents ts) ns ≡ Ok (map (λ n. term n (under ts n)) ns)
  unfolding decode_names
  names_back [] = refl
  names_back (n ∷ ns) = rw (postings_back n, names_back ns)

  -- what was decoded under a name asked is what was handed in
  pub asked_back : (ns : List (List ℕ)) (n : List ℕ) → n ∈ ns → under (map (λ n. term n (under ts n)) (different ns)) n ≡ under ts n
  asked_back ns n m =
      ok_same
      (sym (asked_under (written documents ts) ns (map (λ n. term n (under ts n)) (different ns)) (names_back (different ns)) n m)
      ∙ postings_back n)

  -- the answer by the names decoded is the answer by all that was handed in
  pub answers_back : (rule : Rule) (ns : List (List ℕ)) → idle rule (length ns) ≡ false
      → answers (written documents ts) rule ns ≡ Ok (answer rule ns documents ts)
  answers_back rule ns busy =
      answers_found (written documents ts) rule ns busy (names_back (different ns))
      ∙ ap Ok (answer_same rule ns documents (map (λ n. term n (under ts n)) (different ns)) ts (asked_back ns))
