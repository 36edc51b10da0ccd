-- The call that lists a term's postings, from what the decoding of its list answered.
-- Assumes nothing.
use Rattle.std.specs.Prelude.{Err, None, Ok}
use mathlib.Core.Path.{◌≡◌, refl, ap, ◌∙◌}
use mathlib.Core.List.{List, [], ◌∷◌, map}
use Prim.Native.Nat.{ℕ, ◌≤◌, ◌<◌}
use native.Mathlib.Omega.{arith}
use lib.ListN.{length, drop, length-append}
use borrow.Author.Tests.{le-leb, lt-leb}
use Rattle.segment.specs.declared.refusal.Refusal.{Refusal}
use Rattle.segment.specs.Refusals.{no_room}
use Rattle.segment.specs.Postings.{total_positions}
use Rattle.read_cursors.specs.Held.{PostingAt, positions_there, held_postings, posting_of}
use Rattle.calls.specs.Replies.{fronted}
use Rattle.calls.specs.Reads.{term_list, term_postings, joined_positions}
use Rattle.read_terms.specs.Steps.{ListIsDecoded}
use Rattle.read_terms.proofs.Answering.{docs_are}
use Rattle.read_positions.specs.Promise.{PostingsAnswered}
use Rattle.read_positions.specs.Steps.{all_positions, FilledPostings}

-- ---- positions by offset and by content

joined_same : (ss : List PostingAt) → all_positions ss ≡ joined_positions (map posting_of ss)
unfolding joined_positions
joined_same [] = refl
joined_same (s ∷ ss) = rw (joined_same ss)

joined_many : (ss : List PostingAt) → length (all_positions ss) ≡ total_positions (map posting_of ss)
unfolding total_positions
joined_many [] = refl
joined_many (s ∷ ss) = omega (arith, length-append (positions_there s) (all_positions ss), joined_many ss)

module _ {bytes name : List ℕ} {start df total : ℕ} (d : ListIsDecoded bytes name start df total) where
  pub positions_many : length (all_positions (held_postings df None (drop start bytes))) ≡ total
  positions_many = joined_many (held_postings df None (drop start bytes)) ∙ ap total_positions d.walked ∙ d.total

  positions_are : all_positions (held_postings df None (drop start bytes)) ≡ joined_positions d.postings
  positions_are = joined_same (held_postings df None (drop start bytes)) ∙ ap joined_positions d.walked

-- ---- the call

module _ (bytes name ids counts places : List ℕ) where
  postings_refused : {x : Refusal} → term_postings bytes name (length ids) (length counts) (length places) ≡ Err x
      → PostingsAnswered bytes name ids counts places (Err x) ids counts places
  postings_refused e = record { reply = rw e; ids_left = rw e; counts_left = rw e; positions_left = rw e }

  pub postings_stopped : {x : Refusal} → term_list bytes name ≡ Err x
      → PostingsAnswered bytes name ids counts places (Err x) ids counts places
  unfolding term_postings
  postings_stopped e = postings_refused (rw e)

  pub postings_none : term_list bytes name ≡ Ok []
      → PostingsAnswered bytes name ids counts places (Ok (record { postings = 0; positions = 0 })) ids counts places
  unfolding term_postings total_positions joined_positions
  postings_none e =
      let told : term_postings bytes name (length ids) (length counts) (length places) ≡ Ok [] =
      rw (e, le-leb 0 (length ids) (omega arith), le-leb 0 (length counts) (omega arith), le-leb 0 (length places) (omega arith)) in
      record { reply = rw told; ids_left = rw told; counts_left = rw told; positions_left = rw told }

  module _ {start df total n : ℕ} (d : ListIsDecoded bytes name start df total) (is : n ≡ df) where
    pub ids_no_room : length ids < n → PostingsAnswered bytes name ids counts places (Err (no_room 1 n)) ids counts places
    unfolding term_postings
    ids_no_room h = postings_refused (rw (d.decoded, d.count, ← is, lt-leb n (length ids) h))

    module _ (h₁ : n ≤ length ids) where
      pub counts_no_room : length counts < n
          → PostingsAnswered bytes name ids counts places (Err (no_room 2 n)) ids counts places
      unfolding term_postings
      counts_no_room h = postings_refused (rw (d.decoded, d.count, ← is, le-leb n (length ids) h₁, lt-leb n (length counts) h))

      module _ (h₂ : n ≤ length counts) where
        pub positions_no_room : length places < total
            → PostingsAnswered bytes name ids counts places (Err (no_room 3 total)) ids counts places
        unfolding term_postings
        positions_no_room h =
            postings_refused
            (rw (
              d.decoded,
              d.count,
              ← is,
              le-leb n (length ids) h₁,
              le-leb n (length counts) h₂,
              d.total,
              lt-leb total (length places) h,
            ))

        module _ (h₃ : total ≤ length places) where
          postings_told : term_postings bytes name (length ids) (length counts) (length places) ≡ Ok d.postings
          unfolding term_postings
          postings_told =
              rw (
                d.decoded,
                d.count,
                ← is,
                le-leb n (length ids) h₁,
                le-leb n (length counts) h₂,
                d.total,
                le-leb total (length places) h₃,
              )

          pub postings_filled : {ids' counts' places' : List ℕ}
              → FilledPostings (held_postings df None (drop start bytes)) ids counts places ids' counts' places'
              → PostingsAnswered bytes name ids counts places
              (Ok (record { postings = n; positions = total })) ids' counts' places'
          postings_filled f = record {
            reply = rw (postings_told, d.count, is, d.total);
            ids_left = rw postings_told (f.ids_left ∙ ap (λ l. fronted l ids) (docs_are d));
            counts_left = rw postings_told (f.counts_left ∙ ap (λ l. fronted l counts) d.counts);
            positions_left = rw postings_told (f.positions_left ∙ ap (λ l. fronted l places) (positions_are d));
          }
