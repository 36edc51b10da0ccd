-- What the ranked search answers of a written segment: the matches that the definitions name, where both buffers have room for them.
-- Assumes nothing.
use Rattle.std.specs.Prelude.{Ok}
use mathlib.Core.Path.{◌≡◌, ap, ◌∙◌}
use mathlib.Core.List.{List, map}
use Prim.Native.Nat.{ℕ, ◌≤◌}
use lib.ListN.{length}
use borrow.Author.Tests.{le-leb}
use Rattle.segment.specs.Texts.{names}
use Rattle.segment.specs.Written.{segment_bytes}
use Rattle.segment.proofs.Shapes.{names_count}
use Rattle.rules.specs.declared.rule.Rule.TheVariants.{Phrase}
use Rattle.rules.specs.Kinds.{Enough}
use Rattle.rules.specs.Different.{different}
use Rattle.rules.proofs.Idle.{not_idle_is}
use Rattle.calls.specs.Given.{Lists, given}
use Rattle.calls.specs.Acceptance.{ListsFine}
use Rattle.calls.specs.Questions.{under, WellFormed}
use Rattle.calls.specs.Order.{Match}
use Rattle.calls.specs.Ranked.{ranked_answers, search_ranked}
use Rattle.calls.proofs.Decoding.{term}
use Rattle.calls.proofs.WellFormed.{passes_exactly}
use Rattle.calls.proofs.Answering.{ranked_answer_same, ranked_found}
use Rattle.ask_ranked.specs.Steps.{roomed}
use Rattle.roundtrip.specs.Claims.{Typed}
use Rattle.roundtrip.proofs.ReadsBack.{opened}
use Rattle.claim_joint.proofs.LookupsBack.{written, names_back, asked_back}
use Rattle.claim_joint.proofs.Answered.{decodes}
use Rattle.claim_ranked.proofs.Those.{matches_of}

pub roomed_fits : (found : List Match) (id_room count_room : ℕ) → length found ≤ id_room → length found ≤ count_room
    → roomed found id_room count_room ≡ Ok found
roomed_fits found id_room count_room h k = rw (le-leb (length found) id_room h, le-leb (length found) count_room k)

module _ (l : Lists) (typed : Typed l) (fine : ListsFine l) where
  ranked_back : (ns : List (List ℕ)) → Enough Phrase (length ns)
      → ranked_answers (written (given l).documents (given l).terms) ns ≡ Ok (matches_of l ns)
  ranked_back ns enough =
      let documents = (given l).documents in
      let ts = (given l).terms in
      let each = decodes l typed fine in
      let busy = (not_idle_is Phrase (length ns)).1 enough in
      ranked_found (written documents ts) ns busy (names_back documents ts each (different ns))
      ∙ ap Ok (ranked_answer_same ns documents (map (λ n. term n (under ts n)) (different ns)) ts (asked_back documents ts each ns))

  pub ranked_answered : (text ends : List ℕ) → WellFormed text ends → Enough Phrase (length ends) → (id_room count_room : ℕ)
      → search_ranked (segment_bytes (given l)) text ends id_room count_room
      ≡ roomed (matches_of l (names 0 ends text)) id_room count_room
  unfolding search_ranked
  ranked_answered text ends well enough id_room count_room =
      rw (
        (passes_exactly text ends).1 well,
        opened l typed fine,
        ranked_back (names 0 ends text) (rw (names_count 0 ends text) enough),
      )
