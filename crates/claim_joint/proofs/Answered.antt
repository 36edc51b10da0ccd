-- What the search answers of a written segment: the ids that the definitions name, or that there is no room for them.
-- Assumes nothing.
use Rattle.std.specs.Prelude.{Err, Ok}
use mathlib.Core.Path.{◌≡◌}
use mathlib.Core.List.{List, [], ◌∷◌}
use mathlib.Core.Logic.{inl, inr}
use Prim.Native.Nat.{ℕ, ◌≤◌, ◌<◌}
use native.Mathlib.Omega.{arith}
use lib.Dec.{leb}
use lib.ListN.{length}
use borrow.Author.Tests.{le-leb, lt-leb}
use Rattle.utf8.specs.Utf8.{IsUtf8}
use Rattle.segment.specs.Refusals.{no_room}
use Rattle.segment.specs.Results.{Answer, ◌>>=◌, check}
use Rattle.segment.specs.Texts.{names}
use Rattle.calls.specs.Given.{Lists, given}
use Rattle.calls.specs.Acceptance.{ListsFine}
use Rattle.segment.specs.Written.{segment_bytes}
use Rattle.roundtrip.specs.Claims.{Typed}
use Rattle.roundtrip.proofs.PostingsBack.{list_back}
use Rattle.roundtrip.proofs.ReadsBack.{opened, numbers_fit, few_positions}
use Rattle.common.specs.Elements.{◌∈◌}
use Rattle.rules.specs.declared.rule.Rule.{Rule}
use Rattle.rules.specs.declared.rule.Rule.TheVariants.{Unordered}
use Rattle.rules.specs.Kinds.{Enough}
use Rattle.calls.specs.Questions.{search, search_text, search_two, WellFormed, two_checks}
use Rattle.calls.proofs.WellFormed.{names_pass, passes_exactly}
use Rattle.segment.proofs.Shapes.{names_count}
use Rattle.rules.proofs.Idle.{not_idle_is}
use Rattle.claim_joint.proofs.LookupsBack.{Decodes, answers_back}
use Rattle.claim_joint.proofs.Meeting.{ids_of}

-- the ids, where they have room
abbrev pub roomed : List ℕ → (places : ℕ) → Answer (List ℕ)
roomed ids places = check (leb (length ids) places) (no_room 1 (length ids)) >>= λ _. Ok ids

pub roomed_fits : (ids : List ℕ) (places : ℕ) → length ids ≤ places → roomed ids places ≡ Ok ids
roomed_fits ids places h = rw (le-leb (length ids) places h)

pub roomed_full : (ids : List ℕ) (places : ℕ) → places < length ids → roomed ids places ≡ Err (no_room 1 (length ids))
roomed_full ids places h = rw (lt-leb (length ids) places h)

module _ (l : Lists) (typed : Typed l) (fine : ListsFine l) where
  pub decodes : Decodes (given l).documents (given l).terms
  decodes t m =
      list_back (given l).documents fine.documents_rise (numbers_fit l typed fine) t (fine.each t m) (few_positions l typed fine t m)

  pub search_answers : (rule : Rule) (ns : List (List ℕ)) → Enough rule (length ns) → (places : ℕ)
      → search (segment_bytes (given l)) rule ns places ≡ roomed (ids_of l rule ns) places
  unfolding search
  search_answers rule ns enough places =
      rw (
        opened l typed fine,
        answers_back (given l).documents (given l).terms decodes rule ns ((not_idle_is rule (length ns)).1 enough),
      )

  -- several names in one text
  pub text_answers : (rule : Rule) (text ends : List ℕ) → WellFormed text ends → Enough rule (length ends) → (places : ℕ)
      → search_text (segment_bytes (given l)) rule text ends places ≡ roomed (ids_of l rule (names 0 ends text)) places
  unfolding search_text
  text_answers rule text ends well enough places =
      rw ((passes_exactly text ends).1 well)
      (search_answers rule (names 0 ends text) (rw (names_count 0 ends text) enough) places)

  -- two names
  pub two_answers : (window : ℕ) (a b : List ℕ) → length a ≤ 16777216 → length b ≤ 16777216 → IsUtf8 a → IsUtf8 b → 1 ≤ window
      → (places : ℕ)
      → search_two (segment_bytes (given l)) window a b places ≡ roomed (ids_of l (Unordered window) (a ∷ b ∷ [])) places
  unfolding search_two two_checks
  two_answers window a b short_a short_b text_a text_b some places =
      rw (le-leb (length a) 16777216 short_a, le-leb (length b) 16777216 short_b, (names_pass (a ∷ b ∷ [])).1 each)
      (search_answers (Unordered window) (a ∷ b ∷ []) (omega arith, some) places)
    where
      each : (n : List ℕ) → n ∈ (a ∷ b ∷ []) → IsUtf8 n
      each n (inl e) = rw e text_a
      each n (inr (inl e)) = rw e text_b
      each n (inr (inr m)) = absurd m
