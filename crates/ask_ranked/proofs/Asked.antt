-- The ranked answer for names of a phrase in an open segment: their lists decoded, walked and ranked.
-- Assumes nothing.
use Rattle.std.specs.Prelude.{Err, Ok}
use Rattle.segment.specs.Results.{Answer}
use mathlib.Core.Path.{◌≡◌, refl, ◌∙◌}
use mathlib.Core.Bool.{true, false}
use mathlib.Core.List.{List}
use Prim.Native.Nat.{ℕ, ◌<◌}
use native.Mathlib.Omega.{arith}
use lib.ListN.{length, take}
use borrow.Author.Tests.{le-leb}
use Rattle.segment.specs.declared.refusal.Refusal.{Refusal}
use Rattle.segment.proofs.Accepted.{refused_is}
use Rattle.rules.specs.declared.rule.Rule.TheVariants.{Phrase}
use Rattle.rules.specs.Different.{different}
use Rattle.calls.specs.Order.{ranked}
use Rattle.calls.specs.Questions.{decoded_positions, decode_names}
use Rattle.calls.specs.Ranked.{with_counts, ranked_answer, ranked_answers}
use Rattle.calls.proofs.Answering.{ranked_found, ranked_refused}
use Rattle.calls.proofs.Decoding.{verdict_refused}
use Rattle.read_open.specs.declared.header.Layout.{Layout}
use Rattle.ask_names.specs.declared.slots.Names.{Names}
use Rattle.ask_names.specs.Lists.{lists_decoded}
use Rattle.ask_answer.specs.Steps.{Askable}
use Rattle.ask_answer.proofs.Own.{decoded, all, found_all, found_none, fitting, found_from}
use Rattle.ask_ranked.specs.Steps.{ranked_in, BothFilled, ListsRanked}

module _ {bytes : List ℕ} {at : Layout} {s : Names} (q : Askable bytes at Phrase s) (ids counts : List ℕ) where
  abbrev Answered : (r : Answer ℕ) (ids' counts' : List ℕ) → Type 0
  Answered r ids' counts' = BothFilled (ranked_in q.segment q.names (length ids) (length counts)) ids counts r ids' counts'

  pub asked_refused : {x : Refusal} → Err x ≡ lists_decoded bytes at (take s.different s.list) → Answered (Err x) ids counts
  asked_refused e =
      let f = (verdict_refused (decode_names q.segment (different q.names))).1 (refused_is _ (e ∙ decoded q)) in
      rw (ranked_refused q.segment q.names q.not_idle f) (refl, refl, refl)

  module _ (passed : (Ok tt) ≡ lists_decoded bytes at (take s.different s.list)) where
    asked_is : ranked_answers q.segment q.names
        ≡ Ok (ranked (with_counts (decoded_positions (all q passed).0) q.names (found_all q passed)))
    unfolding ranked_answer
    asked_is = ranked_found q.segment q.names q.not_idle (all q passed).1

    pub asked_absent : s.absent ≡ true → Answered (Ok 0) ids counts
    unfolding ranked
    asked_absent e =
        rw (asked_is, found_none q passed e, le-leb 0 (length ids) (omega arith), le-leb 0 (length counts) (omega arith)) (refl, refl, refl)

    pub asked_found : s.absent ≡ false → {b : ℕ} → b < s.different → {r : (Answer ℕ)} {ids' counts' : List ℕ}
        → ListsRanked b bytes s ids counts r ids' counts'
        → Answered r ids' counts'
    asked_found absent {b} h w =
        rw (asked_is, found_from q passed absent b h)
        (w.replies (λ d nm. decoded_positions (all q passed).0 d nm) q.names (fitting q passed absent))
