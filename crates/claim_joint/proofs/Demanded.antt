-- Demand 3 over the definitions: what is written is given back, and every question put to it lists exactly those that meet it.
-- Assumes nothing.
use Rattle.std.specs.Prelude.{Ok}
use mathlib.Core.Path.{◌≡◌, sym, ap, ◌∙◌}
use mathlib.Core.List.{List, [], ◌∷◌}
use Prim.Native.Nat.{ℕ, ◌≤◌}
use native.Mathlib.Omega.{arith}
use lib.ListN.{length, drop}
use lib.Seq.{take-append_seam, drop-append_seam}
use Rattle.utf8.specs.Utf8.{IsUtf8}
use Rattle.segment.specs.Results.{Answer}
use Rattle.segment.specs.Texts.{names}
use Rattle.calls.specs.Replies.{fronted, filled, count_of}
use Rattle.calls.specs.Given.{Lists}
use Rattle.calls.specs.Acceptance.{ListsFine}
use Rattle.calls.specs.Writing.{write}
use Rattle.roundtrip.specs.Claims.{Typed}
use Rattle.calls.proofs.Accepts.{accepted_gives, accepted_is}
use Rattle.roundtrip.proofs.ReadsBack.{reads_back}
use Rattle.rules.specs.declared.rule.Rule.{Rule}
use Rattle.rules.specs.declared.rule.Rule.TheVariants.{Unordered}
use Rattle.rules.specs.Kinds.{Enough}
use Rattle.calls.specs.Questions.{search_text, search_two, WellFormed}
use Rattle.segment.proofs.Shapes.{names_count}
use Rattle.rules.proofs.Idle.{some_named}
use Rattle.claim_joint.specs.Demand.{GivenBack, Listed}
use Rattle.claim_joint.proofs.Meeting.{those_unique, ids_of, those_are}
use Rattle.calls.proofs.Sizes.{segment_length}
use Rattle.claim_joint.proofs.Counted.{counts_back}
use Rattle.claim_joint.proofs.Answered.{roomed, roomed_fits, text_answers, two_answers}

-- the bytes in front of what the slice had
pub written_back : (l : Lists) (out bytes : List ℕ) → Typed l → write l (length out) ≡ Ok bytes
    → GivenBack l out (length bytes) (fronted bytes out)
written_back l out bytes typed e =
    let b = reads_back l (length out) bytes typed e in
    record {
      size = ap length (sym (accepted_is l (length out) e)) ∙ segment_length l;
      fits = rw (accepted_is l (length out) e) at (accepted_gives l (length out) e).room_enough;
      back = rw (take-append_seam bytes (drop (length bytes) out)) b.back;
      flat = b.flat;
      counted = rw (take-append_seam bytes (drop (length bytes) out)) (counts_back bytes b.back ∙ b.counted);
      rest = drop-append_seam bytes (drop (length bytes) out);
    }

module _ (l : Lists) (room : ℕ) (bytes : List ℕ) (typed : Typed l) (e : write l room ≡ Ok bytes) where
  fine : ListsFine l
  fine = (accepted_gives l room e).lists

  -- any answer that is the ids or that they have no room
  listed_by : (rule : Rule) (ns : List (List ℕ)) → Enough rule (length ns) → (found : List ℕ) (answer : Answer (List ℕ))
      → answer ≡ roomed (ids_of l rule ns) (length found)
      → Listed l rule ns found (count_of answer) (filled (λ xs. xs) answer found)
  listed_by rule ns enough found answer is =
      let those = those_are l fine rule ns (some_named rule (length ns) enough) in
      record {
        there_are = (ids_of l rule ns, those);
        answer = λ ids meet h.
            let same = those_unique l rule ns (ids_of l rule ns) ids those meet in
            let k : answer ≡ Ok ids = is ∙ rw same (roomed_fits ids (length found) h) in
            (rw k, rw k);
      }

  pub listed : (rule : Rule) (text ends : List ℕ) → WellFormed text ends → Enough rule (length ends) → (found : List ℕ)
      → Listed l rule (names 0 ends text) found (count_of (search_text bytes rule text ends (length found)))
      (filled (λ xs. xs) (search_text bytes rule text ends (length found)) found)
  listed rule text ends well enough found =
      listed_by rule (names 0 ends text) (rw (names_count 0 ends text) enough) found (search_text bytes rule text ends (length found))
      (rw (← accepted_is l room e) (text_answers l typed fine rule text ends well enough (length found)))

  pub listed_two : (window : ℕ) (a b : List ℕ) → length a ≤ 16777216 → length b ≤ 16777216 → IsUtf8 a → IsUtf8 b → 1 ≤ window
      → (found : List ℕ)
      → Listed l (Unordered window) (a ∷ b ∷ []) found (count_of (search_two bytes window a b (length found)))
      (filled (λ xs. xs) (search_two bytes window a b (length found)) found)
  listed_two window a b short_a short_b text_a text_b some found =
      listed_by (Unordered window) (a ∷ b ∷ []) (omega arith, some) found (search_two bytes window a b (length found))
      (rw (← accepted_is l room e) (two_answers l typed fine window a b short_a short_b text_a text_b some (length found)))
