-- From what the writer and the ranked search answer to the claim about a call that writes and then asks.
-- Assumes nothing.
use Rattle.claim_joint.specs.Demand.{answered, not_written, ProperText}
use Rattle.std.specs.Prelude.{Err, Ok}
use mathlib.Core.Path.{◌≡◌, refl, sym, ap, ◌∙◌}
use mathlib.Core.List.{List, ◌++◌}
use Prim.Native.Nat.{ℕ}
use native.Mathlib.Omega.{arith}
use lib.ListN.{length, take, drop, length-map}
use Rattle.segment.specs.declared.refusal.Refusal.{Refusal}
use Rattle.segment.specs.Results.{Answer}
use Rattle.segment.specs.Texts.{names}
use Rattle.segment.proofs.Shapes.{names_count}
use Rattle.rules.specs.declared.rule.Rule.TheVariants.{Phrase}
use Rattle.calls.specs.Given.{Lists}
use Rattle.calls.specs.Acceptance.{ListsFine}
use Rattle.calls.specs.Writing.{write}
use Rattle.calls.specs.Replies.{filled, count_of}
use Rattle.calls.specs.Order.{Match}
use Rattle.calls.specs.Ranked.{search_ranked, match_ids, match_counts}
use Rattle.calls.proofs.Accepts.{accepted_gives, accepted_is}
use Rattle.roundtrip.specs.Claims.{Typed}
use Rattle.write_segment.specs.Promise.{Wrote}
use Rattle.ask_ranked.specs.Promise.{RankedAnswered}
use Rattle.claim_joint.proofs.Claimed.{same_written, same_answer, WroteBytes, refused_accepts, refused_left, left_alone, asked_bytes, answered_accepts, gives_back}
use Rattle.claim_ranked.specs.Demand.{RankedListed, Demand3Ranked}
use Rattle.claim_ranked.proofs.Those.{those_unique, matches_of, those_are_ranked}
use Rattle.claim_ranked.proofs.Answered.{roomed_fits, ranked_answered}

-- what an answer of matches leaves
answer_of : (r : Answer (List Match)) (ids counts : List ℕ) (found : List Match) → r ≡ Ok found
    → (count_of r ≡ Ok (length found)) × (filled match_ids r ids ≡ match_ids found ++ drop (length found) ids)
    × (filled match_counts r counts ≡ match_counts found ++ drop (length found) counts)
answer_of r ids counts found e =
    (rw e, rw (e, length-map found (λ m. m.doc)), rw (e, length-map found (λ m. m.count)))

module _ (l : Lists) (room : ℕ) (bytes : List ℕ) (typed : Typed l) (e : write l room ≡ Ok bytes) where
  fine : ListsFine l
  fine = (accepted_gives l room e).lists

  listed : (text ends : List ℕ) → ProperText Phrase text ends → (ids counts : List ℕ) {r : Answer (List Match)}
      → r ≡ search_ranked bytes text ends (length ids) (length counts)
      → RankedListed l (names 0 ends text) ids counts (count_of r) (filled match_ids r ids) (filled match_counts r counts)
  listed text ends proper ids counts is =
      let ns = names 0 ends text in
      let those = those_are_ranked l typed fine ns (rw (names_count 0 ends text) proper.enough) in
      let answered = ranked_answered l typed fine text ends proper.well_formed proper.enough (length ids) (length counts) in
      record {
        there_are = (matches_of l ns, those);
        answer = λ found ranked h k.
            let same = those_unique l ns (matches_of l ns) found those ranked in
            answer_of _ ids counts found
            (is ∙ rw (← accepted_is l room e) (answered ∙ rw same (roomed_fits found (length ids) (length counts) h k)));
      }

-- ---- not written

pub refused_ranked : (l : Lists) (out : List ℕ) {w : (Answer ℕ)} {out' : List ℕ} → Wrote l out w out' → {x : Refusal} → w ≡ Err x
    → (ns : List (List ℕ)) (Proper : Type 0) (ids counts : List ℕ)
    → Demand3Ranked l out ns Proper ids counts (not_written x) out' ids counts
refused_ranked l out wrote e ns Proper ids counts = record {
  accepts = refused_accepts l out wrote e;
  refuses = λ x is. (refused_left l out wrote e, refl, refl);
  search_refuses = λ n x is. let z : ◌≡◌ {A = ℕ} 0 1 = cc in absurd (omega arith);
  gives_back = λ n c is. let z : ◌≡◌ {A = ℕ} 0 1 = cc in absurd (omega arith);
  lists = λ n c is. let z : ◌≡◌ {A = ℕ} 0 1 = cc in absurd (omega arith);
}

-- ---- written and asked

module _ (l : Lists) (out : List ℕ) (typed : Typed l) {n : ℕ} {out' : List ℕ} (w : WroteBytes l out n out') where
  pub asked_ranked : (name ends ids counts : List ℕ) {c : (Answer ℕ)} {ids' counts' : List ℕ}
      → RankedAnswered (take n out') name ends ids counts c ids' counts'
      → Demand3Ranked l out (names 0 ends name) (ProperText Phrase name ends) ids counts (answered n c) out' ids' counts'
  asked_ranked name ends ids counts {c} p =
      let r = search_ranked (take n out') name ends (length ids) (length counts) in
      let bytes = ap (λ b. search_ranked b name ends (length ids) (length counts)) (asked_bytes l out typed w) in
      record {
        accepts = answered_accepts l out typed w c;
        refuses = λ x is. let z : ◌≡◌ {A = ℕ} 0 1 = cc in absurd (omega arith);
        search_refuses = λ m x is.
            let refused = sym p.reply ∙ same_answer is in
            (p.ids_left ∙ left_alone match_ids r ids refused, p.counts_left ∙ left_alone match_counts r counts refused);
        gives_back = λ m d is. gives_back l out typed w (same_written is);
        lists = λ m d is proper.
            rw (sym (same_answer is), p.reply, p.ids_left, p.counts_left)
            (listed l (length out) w.bytes typed w.answer name ends proper ids counts bytes);
      }
