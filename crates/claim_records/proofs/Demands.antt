-- What the call ensures of the lists in which the records stand taken apart is demand 3 over the records.
-- Assumes nothing.
use Rattle.claim_joint.specs.Demand.{not_written}
use Rattle.std.specs.Prelude.{Err, Ok}
use mathlib.Core.Path.{◌≡◌, refl, sym, ap, ◌∙◌, subst}
use mathlib.Core.List.{List}
use Prim.Native.Nat.{ℕ}
use lib.ListN.{length}
use Rattle.segment.specs.declared.refusal.Refusal.{Refusal}
use Rattle.segment.specs.Results.{Answer}
use Rattle.segment.specs.Steps.{checked}
use Rattle.calls.specs.Given.{Lists, lists}
use Rattle.segment.proofs.Binds.{refuse_ok}
use Rattle.segment.proofs.Accepted.{refused_is, passed_ok}
use Rattle.write_records.specs.declared.exchange.DocumentLength.{DocumentLength}
use Rattle.write_records.specs.Steps.{Three, three, exchanged, check_places}
use Rattle.write_records.proofs.Exchanging.{given_back}
use Rattle.write_records.proofs.Entered.{handed_in, standing, fits_standing, places_fit, places_misfit}
use Rattle.claim_joint.specs.declared.ask.Asked.{Asked}
use Rattle.claim_joint.specs.declared.ask.Question.{Question}
use Rattle.claim_joint.specs.Promise.{WrittenThenAsked}
use Rattle.claim_records.specs.Promise.{Demand3Records}
use Rattle.claim_records.specs.Steps.{AskedApart}

same_refusal : {x y : Refusal} → ◌≡◌ {A = Answer (Unit {0})} (Err x) (Err y) → x ≡ y
same_refusal e = cc

module _ (count : ℕ) (l : Lists) (out found : List ℕ) {q : Question} {name name_ends other : List ℕ} where
  pub refused_apart : {x : Refusal} → Err x ≡ checked (check_places count l)
      → AskedApart count l out q name name_ends other found (not_written x) out found
  refused_apart e =
      let r = refused_is (check_places count l) e in
      record {
        passed = λ p. refuse_ok (sym r ∙ p);
        refused = λ y p. (ap not_written (same_refusal (sym r ∙ p)), refl, refl);
      }

  pub passed_apart : {r : Answer Asked} {out' found' : List ℕ} → (Ok tt) ≡ checked (check_places count l)
      → WrittenThenAsked l out q name name_ends other found r out' found'
      → AskedApart count l out q name name_ends other found r out' found'
  passed_apart e d = record { passed = λ _. d; refused = λ y p. refuse_ok (sym p ∙ (passed_ok (check_places count l) e).1) }

module _ (ds : List DocumentLength) (xs ys text ends posting_counts posting_ids position_counts positions : List ℕ) {out found : List ℕ}
    {q : Question}
    {name name_ends other : List ℕ} {r : Answer Asked} {out' found' : List ℕ} where
  pub asked_records : AskedApart (length ds)
      (standing ds xs ys text ends posting_counts posting_ids position_counts positions) out q name name_ends other found r out' found'
      → Demand3Records (handed_in ds xs ys text ends posting_counts posting_ids position_counts positions) ds xs ys out q name name_ends other found r ds xs ys out' found'
  asked_records w =
      record {
        demand = λ f g.
            subst (λ (l : Lists). WrittenThenAsked l out q name name_ends other found r out' found')
            (fits_standing ds xs ys text ends posting_counts posting_ids position_counts positions f g)
            (w.passed (places_fit ds xs ys text ends posting_counts posting_ids position_counts positions f g));
        misfits = λ differ.
            let told = w.refused _ (places_misfit ds xs ys text ends posting_counts posting_ids position_counts positions differ) in
            record { reply = told.0; left = (told.1, told.2) };
        records_left = refl;
        ids_left = refl;
        lengths_left = refl;
      }

  -- exchanged, asked and exchanged back
  pub asked_between : {ds' ds'' : List DocumentLength} {xs' ys' xs'' ys'' : List ℕ}
      → three ds' xs' ys' ≡ exchanged ds xs ys → three ds'' xs'' ys'' ≡ exchanged ds' xs' ys' → length ds' ≡ length ds
      → AskedApart (length ds') (lists xs' ys' text ends posting_counts posting_ids position_counts positions) out q name name_ends other found r out' found'
      → Demand3Records (handed_in ds xs ys text ends posting_counts posting_ids position_counts positions) ds xs ys out q name name_ends other found r ds'' xs'' ys'' out' found'
  asked_between {ds'} {ds''} {xs'} {ys'} {xs''} {ys''} e f long w =
      let lists_of : List ℕ → List ℕ → Lists = λ is ls. lists is ls text ends posting_counts posting_ids position_counts positions in
      let counted = subst (λ (n : ℕ). AskedApart n (lists_of xs' ys') out q name name_ends other found r out' found') long w in
      let taken = subst (λ (z : Three). AskedApart (length ds) (lists_of z.ids z.lengths) out q name name_ends other found r out' found') e counted in
      subst (λ (z : Three). Demand3Records (handed_in ds xs ys text ends posting_counts posting_ids position_counts positions) ds xs ys out q name name_ends other found r z.documents z.ids z.lengths out' found')
      (sym (given_back e f)) (asked_records taken)
