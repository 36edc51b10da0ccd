-- The lookup behind the checks, as the code answers it.
-- Assumes nothing.
use Rattle.std.specs.Prelude.{Err, None, Ok, Option, Some}
use mathlib.Core.Path.{◌≡◌}
use mathlib.Core.List.{List}
use Prim.Native.Nat.{ℕ}
use Rattle.common.specs.Lists.{paired}
use Rattle.segment.specs.declared.refusal.Refusal.{Refusal}
use Rattle.segment.specs.Metadata.{document, length_of}
use Rattle.calls.specs.Replies.{length_answer}
use Rattle.write_lookup.specs.Steps.{known_means}
use Rattle.length_lookup.specs.Lookup.{check_ids_and_lengths, looked_up}

module _ (ids lengths : List ℕ) (id : ℕ) where
  -- the length that stands beside the id
  abbrev pub there : Option ℕ
  there = length_of (paired document ids lengths) id

  pub refused_on : {x : Refusal} → check_ids_and_lengths ids lengths ≡ Err x → looked_up ids lengths id ≡ Err x
  unfolding looked_up
  refused_on e = rw e

  pub passed_on : check_ids_and_lengths ids lengths ≡ Ok tt → looked_up ids lengths id ≡ Ok there
  unfolding looked_up
  passed_on e = rw e

  module _ (passed : check_ids_and_lengths ids lengths ≡ Ok tt) where
    pub known_on : {n : ℕ} → Some n ≡ there → (Ok (Some n)) ≡ length_answer (looked_up ids lengths id)
    known_on e = rw (passed_on passed, ← e)

    pub absent_on : None ≡ there → (Ok None) ≡ length_answer (looked_up ids lengths id)
    absent_on e = rw (passed_on passed, ← e)

    -- what the writer's lookup answers
    pub found_on : (o : Option ℕ) → known_means o ≡ there → Ok o ≡ length_answer (looked_up ids lengths id)
    found_on (Some n) e = known_on e
    found_on None e = absent_on e
