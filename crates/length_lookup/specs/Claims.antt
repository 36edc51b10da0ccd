-- What is claimed of the lookup over a caller's lists. Proved in proofs/Claimed.antt.
use Rattle.std.specs.Prelude.{Ok, Option, ℕ, ◌≤◌, ◌≡◌, List, ◌↔◌, length}
use Rattle.segment.specs.Results.{Answer}
use Rattle.segment.specs.Records.{Document}
use Rattle.calls.specs.Replies.{length_answer, ids_of, lengths_of}
use Rattle.calls.specs.Reads.{document_lengths, document_len}
use Rattle.length_lookup.specs.Lookup.{looked_up}
use Rattle.length_lookup.specs.Words.{Answers}

-- the answer is what the words say, and the words leave no choice
abbrev pub LookupExactly : Type 0
LookupExactly = (ids lengths : List ℕ) (id : ℕ) (r : Answer (Option ℕ)) → (r ≡ length_answer (looked_up ids lengths id)) ↔ Answers ids lengths id r

-- over the ids and lengths that `document_lengths` answers, not too many of them, it answers what `document_len` answers of the segment
abbrev pub AsInTheSegment : Type 0
AsInTheSegment =
    (bytes : List ℕ) (room₁ room₂ : ℕ) (ds : List Document) → document_lengths bytes room₁ room₂ ≡ Ok ds → length ds ≤ 16777216
    → (id : ℕ) → looked_up (ids_of ds) (lengths_of ds) id ≡ document_len bytes id
