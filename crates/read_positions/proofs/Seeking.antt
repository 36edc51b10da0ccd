-- The positions of a term in one document, from a cursor that was sought to it.
-- Assumes nothing.
use Rattle.std.specs.Prelude.{Err, None, Ok}
use mathlib.Core.Path.{◌≡◌, sym, ap, ◌∙◌}
use mathlib.Core.List.{List, []}
use Prim.Native.Nat.{ℕ, ◌+◌, ◌≤◌, ◌<◌}
use native.Mathlib.Omega.{arith}
use lib.ListN.{length, drop}
use borrow.Author.Tests.{le-leb, lt-leb}
use Rattle.segment.specs.declared.refusal.Refusal.{Refusal}
use Rattle.segment.specs.Refusals.{no_room}
use Rattle.read_cursors.specs.Held.{held_positions, held_postings}
use Rattle.read_cursors.specs.declared.postings.Postings.{Postings}
use Rattle.calls.specs.Lookups.{positions_of}
use Rattle.read_cursors.specs.Steps.{postings_from, SoughtPosting}
use Rattle.common.specs.Stores.{Stored}
use Rattle.calls.proofs.Filling.{at_front}
use Rattle.calls.specs.Reads.{term_list, positions}
use Rattle.read_positions.specs.Promise.{PositionsAnswered}
use Rattle.read_terms.specs.Steps.{ListIsDecoded}
use Rattle.read_positions.proofs.Sought.{sought_none, sought_these, sought_many}

module _ (bytes name : List ℕ) (id : ℕ) (places : List ℕ) where
  refused : {x : Refusal} → positions bytes name id (length places) ≡ Err x
      → PositionsAnswered bytes name id places (Err x) places
  refused e = record { reply = rw e; positions_left = rw e }

  pub positions_stopped : {x : Refusal} → term_list bytes name ≡ Err x
      → PositionsAnswered bytes name id places (Err x) places
  unfolding positions
  positions_stopped e = refused (rw e)

  nothing : positions bytes name id (length places) ≡ Ok [] → PositionsAnswered bytes name id places (Ok 0) places
  nothing e = record { reply = rw e; positions_left = rw e }

  pub no_list : term_list bytes name ≡ Ok [] → PositionsAnswered bytes name id places (Ok 0) places
  unfolding positions positions_of
  no_list e = nothing (rw (e, le-leb 0 (length places) (omega arith)))

  -- a list that was decoded, and the cursor that was sought in it
  module _ {start df total : ℕ} (d : ListIsDecoded bytes name start df total) (first here : Postings)
      (starts : postings_from bytes first ≡ held_postings df None (drop start bytes)) (sought : SoughtPosting bytes id first here) where
    pub not_listed : (0 < here.remaining → here.doc.0 ≡ id → ⊥) → PositionsAnswered bytes name id places (Ok 0) places
    unfolding positions
    not_listed h =
        let none_there = sought_none bytes id d.walked d.counts first here starts sought h in
        nothing (rw (d.decoded, none_there, le-leb 0 (length places) (omega arith)))

    module _ (h : 0 < here.remaining) (e : here.doc.0 ≡ id) {n : ℕ} (is : n ≡ here.count) where
      these : positions_of d.postings id ≡ held_positions here.count None (drop here.at bytes)
      these = sought_these bytes id d.walked d.counts first here starts sought h e

      many : length (held_positions here.count None (drop here.at bytes)) ≡ n
      many = sym (sought_many bytes id d.walked d.counts first here starts sought h) ∙ sym is

      pub places_no_room : length places < n → PositionsAnswered bytes name id places (Err (no_room 1 n)) places
      unfolding positions
      places_no_room k = refused (rw (d.decoded, these, many, lt-leb n (length places) k))

      module _ {part : List ℕ} (k : n ≤ length places) (p : part ≡ held_positions here.count None (drop here.at bytes)) where
        pub places_fit : 0 + length part ≤ length places
        places_fit = omega (arith, ap length p, many)

        told : positions bytes name id (length places) ≡ Ok part
        unfolding positions
        told = rw (d.decoded, these, many, le-leb n (length places) k) (ap Ok (sym p))

        pub positions_filled : {next : ℕ} {places' : List ℕ} → Stored part 0 places next places'
            → PositionsAnswered bytes name id places (Ok n) places'
        positions_filled s = record {
          reply = rw told (ap Ok (sym (ap length p ∙ many)));
          positions_left = rw told (at_front (omega (arith, places_fit)) s);
        }
