-- The documents found and their counts, stored at the front of both buffers and ranked there.
-- Assumes nothing.
use Rattle.std.specs.Prelude.{Err, Ok}
use Rattle.segment.specs.Results.{Answer}
use mathlib.Core.Path.{◌≡◌, refl, sym, ap, ◌∙◌}
use mathlib.Core.List.{List, ◌++◌, map}
use Prim.Native.Nat.{ℕ, ◌≤◌, ◌<◌}
use native.Mathlib.Omega.{arith}
use lib.ListN.{length, length-map, take, drop}
use lib.Seq.{sets, take-append_seam, drop-append_seam}
use Rattle.common.proofs.Pairs.{paired_picture}
use Rattle.common.proofs.Sets.{sets_front}
use Rattle.segment.specs.declared.refusal.Refusal.{Refusal}
use Rattle.segment.specs.Steps.{checked}
use Rattle.rules.specs.declared.rule.Rule.TheVariants.{Phrase}
use Rattle.rules.specs.Rules.{starts_count}
use Rattle.calls.specs.Order.{Match, match_of, ranked}
use Rattle.calls.specs.Ranked.{with_counts}
use Rattle.calls.specs.Replies.{fronted}
use Rattle.calls.proofs.Ranks.{ranked_length}
use Rattle.read_cursors.specs.Held.{posting_of}
use Rattle.rank.specs.Steps.{matches, RankedIn}
use Rattle.read_cursors.specs.declared.postings.Postings.{Postings}
use Rattle.ask_names.specs.declared.slots.Names.{Names}
use Rattle.ask_names.specs.Lists.{Led}
use Rattle.ask_walk.specs.Steps.{FoundCounted, DocumentsCounted}
use Rattle.ask_answer.specs.Steps.{Heads, Fitting, found_in}
use Rattle.ask_answer.proofs.Walked.{heads_fit}
use Rattle.ask_answer.proofs.Led.{first_led, fitting_led}
use Rattle.ask_ranked.specs.Steps.{room_for, BothFilled, FitsSome, ListsCounted, RoomChecked, ListsRanked}
use Rattle.ask_ranked.proofs.Room.{roomed_refused, roomed_passed, both_room}

-- ---- the walk from the lists' first postings

pub lists_counted : (bytes : List ℕ) (s : Names) {cursors : ℕ → Postings} {ids counts : List ℕ} {r : ℕ} {ids' counts' : List ℕ}
    → 0 < s.different → Heads bytes s.different s.list cursors
    → DocumentsCounted bytes s.taken s.slot s.different cursors ids counts r ids' counts'
    → ListsCounted bytes s ids counts r ids' counts'
lists_counted bytes s first h w own ns f =
    rw (ap (map posting_of) (h.each 0 first)) at (w s.wanted own ns f.numbered (heads_fit h f))

-- ---- what was stored, ranked

-- a run at the front of a buffer, and what is past it
front_of : {n : ℕ} (xs l : List ℕ) {out : List ℕ} → n ≡ length xs → n ≤ length l → out ≡ sets l 0 xs
    → (take n out ≡ xs) × (drop n out ≡ drop n l)
front_of xs l e few is =
    let f = is ∙ sets_front l xs (omega (arith, e, few)) in
    rw (f, e) (take-append_seam xs (drop (length xs) l), drop-append_seam xs (drop (length xs) l))

-- so many ranked matches at the front of a buffer
ranked_front : (f : Match → ℕ) (ms : List Match) {n : ℕ} (l : List ℕ) → length ms ≡ n → map f ms ++ drop n l ≡ fronted (map f ms) l
ranked_front f ms l e = ap (λ n. map f ms ++ drop n l) (sym e ∙ sym (length-map ms f))

module _ (own : ℕ → List ℕ → List ℕ) (ns : List (List ℕ)) (found : List ℕ) where
  abbrev best : List Match
  best = ranked (with_counts own ns found)

  best_many : length best ≡ length found
  best_many = ranked_length (with_counts own ns found) ∙ length-map found (λ d. match_of d (starts_count (own d) ns))

  module _ (ids counts : List ℕ) {n : ℕ} {ids₁ counts₁ ids₂ counts₂ : List ℕ}
      (w : FoundCounted found (map (λ d. starts_count (own d) ns) found) ids counts n ids₁ counts₁) (id_room : n ≤ length ids)
      (count_room : n ≤ length counts) (s : RankedIn n ids₁ counts₁ ids₂ counts₂) where
    stored_ids : (take n ids₁ ≡ found) × (drop n ids₁ ≡ drop n ids)
    stored_ids = front_of found ids w.in_ids.count id_room w.in_ids.left

    stored_counts : (take n counts₁ ≡ map (λ d. starts_count (own d) ns) found) × (drop n counts₁ ≡ drop n counts)
    stored_counts =
        front_of (map (λ d. starts_count (own d) ns) found) counts
        (w.in_ids.count ∙ sym (length-map found (λ d. starts_count (own d) ns))) count_room w.in_counts

    side_by_side : matches (take n ids₁) (take n counts₁) ≡ with_counts own ns found
    side_by_side = rw (stored_ids.0, stored_counts.0) (paired_picture match_of (λ d. starts_count (own d) ns) found)

    pub stored_ranked : BothFilled (Ok best) ids counts (Ok n) ids₂ counts₂
    stored_ranked =
        let many = best_many ∙ sym w.in_ids.count in (
          ap Ok (sym many),
          s.ids_left ∙ rw (side_by_side, stored_ids.1) (ranked_front (λ m. m.doc) best ids many),
          s.counts_left ∙ rw (side_by_side, stored_counts.1) (ranked_front (λ m. m.count) best counts many),
        )

-- ---- the lists ranked

module _ (bytes : List ℕ) (s : Names) (ids counts : List ℕ) where
  -- the test by the number of matches
  by_matches : {r : (Answer (Unit {0}))} → RoomChecked bytes s (length ids) (length counts) r
      → (own : ℕ → List ℕ → List ℕ) (ns : List (List ℕ)) → Fitting bytes s own ns
      → r ≡ checked (room_for (length (best own ns (found_in bytes s 0 Phrase own ns))) (length ids) (length counts))
  by_matches room own ns f = rw (best_many own ns (found_in bytes s 0 Phrase own ns)) (room own ns f)

  pub lists_short : {x : Refusal} → RoomChecked bytes s (length ids) (length counts) (Err x)
      → ListsRanked 0 bytes s ids counts (Err x) ids counts
  lists_short room = record {
    replies = λ own ns f.
        rw (roomed_refused (best own ns (found_in bytes s 0 Phrase own ns)) (length ids) (length counts) (by_matches room own ns f))
        (refl, refl, refl);
  }

  module _ (room : RoomChecked bytes s (length ids) (length counts) (Ok tt)) {found : ℕ} {ids₁ counts₁ : List ℕ}
      (w : ListsCounted bytes s ids counts found ids₁ counts₁) where
    found_room : (own : ℕ → List ℕ → List ℕ) (ns : List (List ℕ)) → Fitting bytes s own ns
        → (found ≤ length ids) × (found ≤ length counts)
    found_room own ns f =
        let all = found_in bytes s 0 Phrase own ns in
        let has = both_room (best own ns all) (length ids) (length counts) (by_matches room own ns f) in
        let is = (w own ns f).in_ids.count in
        (omega (arith, is, best_many own ns all, has.0), omega (arith, is, best_many own ns all, has.1))

    pub some_room : FitsSome bytes s → (found ≤ length ids) × (found ≤ length counts)
    some_room x = found_room x.own x.names x.fitting

    pub lists_ranked : {ids₂ counts₂ : List ℕ} → RankedIn found ids₁ counts₁ ids₂ counts₂
        → ListsRanked 0 bytes s ids counts (Ok found) ids₂ counts₂
    lists_ranked r = record {
      replies = λ own ns f.
          let all = found_in bytes s 0 Phrase own ns in
          rw (roomed_passed (best own ns all) (length ids) (length counts) (by_matches room own ns f))
          (stored_ranked own ns all ids counts (w own ns f) (found_room own ns f).0 (found_room own ns f).1 r);
    }

-- ---- the rarest list leads

module _ (bytes : List ℕ) {s t : Names} (led : Led s t) where
  pub some_led : (own : ℕ → List ℕ → List ℕ) (ns : List (List ℕ)) → Fitting bytes s own ns → FitsSome bytes t
  some_led own ns f = record { own = own; names = ns; fitting = fitting_led bytes led f }

  pub ranked_led : {ids counts : List ℕ} {r : (Answer ℕ)} {ids' counts' : List ℕ}
      → ListsRanked 0 bytes t ids counts r ids' counts' → ListsRanked led.b bytes s ids counts r ids' counts'
  ranked_led w = record {
    replies = λ own ns f. rw (first_led bytes led) at (w.replies own ns (fitting_led bytes led f));
  }
