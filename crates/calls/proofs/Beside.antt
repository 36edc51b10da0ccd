-- The ranked answer beside the plain one: it refuses alike, and else has the same documents, ranked by the number of their starts.
-- Assumes nothing.
use Rattle.std.specs.Prelude.{Err, Ok}
use mathlib.Core.Path.{◌≡◌, refl, sym, ap, ◌∙◌, subst}
use mathlib.Core.Bool.{Bool, true, false, cond}
use mathlib.Core.List.{List, [], ◌∷◌}
use Prim.Native.Nat.{ℕ, ◌<◌}
use native.Mathlib.Omega.{arith}
use lib.Dec.{eqb, leb}
use lib.ListN.{length, get_or, length-map}
use borrow.Author.Tests.{eqb-true, eqb-false, le-leb, lt-leb}
use Rattle.common.specs.Elements.{◌∈◌, Rising}
use Rattle.common.proofs.Elements.{map_from}
use Rattle.common.proofs.Membership.{at_place, map_gives}
use Rattle.segment.specs.declared.refusal.Refusal.{Refusal}
use Rattle.segment.specs.Refusals.{no_room}
use Rattle.segment.specs.Results.{Answer, ◌>>=◌, check, roomy}
use Rattle.segment.specs.Records.{Posting, Term, Segment}
use Rattle.segment.specs.Texts.{names}
use Rattle.segment.specs.Opening.{open_segment}
use Rattle.segment.proofs.Binds.{ok_same, refuse_ok, bind_gives}
use Rattle.segment.proofs.Accepted.{check_gives}
use Rattle.segment.proofs.ReadRising.{opened_rises}
use Rattle.rules.specs.declared.rule.Rule.TheVariants.{Phrase}
use Rattle.rules.specs.Words.{FitsSoOften}
use Rattle.rules.specs.Rules.{starts_count}
use Rattle.rules.specs.Different.{different}
use Rattle.rules.proofs.Counts.{starts_counted_named, starts_number}
use Rattle.calls.specs.Lookups.{postings_of, positions_of}
use Rattle.calls.specs.Questions.{check_question, under, decode_names, decoded_positions, answer, answers, search, search_text}
use Rattle.calls.specs.Order.{Match, match_of, ranked}
use Rattle.calls.specs.Ranked.{with_counts, ranked_answer, ranked_answers, search_ranked, match_ids}
use Rattle.calls.specs.Claims.{Ranking, BesidePlain, RankedBeside, RankingOnly}
use Rattle.calls.proofs.Posted.{ids}
use Rattle.calls.proofs.Answering.{answer_rises}
use Rattle.calls.proofs.Decoding.{asked_under}
use Rattle.calls.proofs.OwnRising.{named_rises}
use Rattle.calls.proofs.Ordered.{same_fields}
use Rattle.calls.proofs.Ranks.{ranked_length, ranked_ids, ranked_members}
use Rattle.calls.proofs.Sorted.{occurs_there, occurs_gives, rising_once, best_first, best_unique}

-- ---- documents with their counts

module _ (own : ℕ → List ℕ → List ℕ) (ns : List (List ℕ)) where
  counted_ids : (ds : List ℕ) → match_ids (with_counts own ns ds) ≡ ds
  counted_ids [] = refl
  counted_ids (d ∷ ds) = ap (λ (l : List ℕ). d ∷ l) (counted_ids ds)

  -- rising documents, ranked by their counts
  pub counted_ranking : (ds : List ℕ) → Rising ds → ((d : ℕ) → FitsSoOften (own d) ns (starts_count (own d) ns))
      → Ranking ds own ns (ranked (with_counts own ns ds))
  counted_ranking ds r fits =
      let same = counted_ids ds in
      record {
        permutes = λ d. rw (ranked_ids (with_counts own ns ds) d, same);
        sorted = best_first (with_counts own ns ds) (rw same (rising_once ds r));
        counts = λ m k.
            let (d, _, e) = map_gives (λ d. match_of d (starts_count (own d) ns)) ds m ((ranked_members (with_counts own ns ds) m).0 k) in
            subst (λ (m : Match). FitsSoOften (own m.doc) ns m.count) (sym e) (fits d);
      }

  -- each match has the number of its starts
  abbrev Counts : List Match → Type 0
  Counts ms = (m : Match) → m ∈ ms → FitsSoOften (own m.doc) ns m.count

  -- a document that is in another list is there with the same count
  pub also_counted : (ms others : List Match) → Counts ms → Counts others → (m : Match) → m ∈ ms → m.doc ∈ match_ids others → m ∈ others
  also_counted ms others r q m k also =
      let (n, j, e) = map_gives (λ m. m.doc) others m.doc also in
      let same_own : FitsSoOften (own m.doc) ns n.count = rw (sym e) at (q n j) in
      let is : n ≡ m = same_fields n m (sym e) (starts_number (own m.doc) ns n.count m.count same_own (r m k)) in
      subst (λ (n : Match). n ∈ others) is j

  -- no other list is such a ranking of the same documents
  among : {ds : List ℕ} (ms others : List Match) → Ranking ds own ns ms → Ranking ds own ns others → (m : Match) → m ∈ ms → m ∈ others
  among ms others r q m k =
      let there = occurs_there m.doc (match_ids ms) (map_from (λ m. m.doc) ms m k) in
      also_counted ms others r.counts q.counts m k
      (occurs_gives m.doc (match_ids others) (omega (arith, there, r.permutes m.doc, q.permutes m.doc)))

pub ranking_only : RankingOnly
ranking_only ids own ns ms others r q =
    best_unique ms others r.sorted q.sorted (λ m. (among own ns ms others r q m, among own ns others ms q r m))

-- ---- the two answers of an open segment

-- a plain answer, and the ranked one beside it
record Sides (s : Segment) (ns : List (List ℕ)) (plain : List ℕ) (found : List Match) : Type 0 where
  own : ℕ → List ℕ → List ℕ
  positions : (n : List ℕ) → n ∈ ns → (ps : List Posting) × (postings_of s n ≡ Ok ps) × ((d : ℕ) → own d n ≡ positions_of ps d)
  long : length found ≡ length plain
  ranking : Ranking plain own ns found

none_idle : (s : Segment) (ns : List (List ℕ)) → length ns ≡ 0 → Sides s ns [] []
none_idle s [] e = record {
  own = λ d n. [];
  positions = λ n m. absurd m;
  long = refl;
  ranking = record { permutes = λ d. refl; sorted = λ i j h l. absurd (omega arith); counts = λ m k. absurd k };
}
none_idle s (n ∷ ns) e = absurd (omega arith)

module _ (s : Segment) (ns : List (List ℕ)) (rises : Rising (ids s.documents)) where
  asked_sides : (ts : List Term) → 0 < length ns → decode_names s (different ns) ≡ Ok ts
      → Sides s ns (answer Phrase ns s.documents ts) (ranked_answer ns s.documents ts)
  unfolding ranked_answer
  asked_sides ts h e =
      let plain = answer Phrase ns s.documents ts in
      let first = at_place [] ns 0 h in
      record {
        own = decoded_positions ts;
        positions = λ n m. (under ts n, asked_under s ns ts e n m, λ d. refl);
        long = ranked_length (with_counts (decoded_positions ts) ns plain) ∙ length-map plain _;
        ranking =
            counted_ranking (decoded_positions ts) ns plain (answer_rises Phrase ns s.documents ts rises)
            (λ d. starts_counted_named (decoded_positions ts d) ns h
            (named_rises s (get_or ns 0 []) (asked_under s ns ts e (get_or ns 0 []) first) d));
      }

  -- both refuse, with one refusal, or both answer
  abbrev Alike : Answer (List ℕ) → Answer (List Match) → Type 0
  Alike (Ok plain) (Ok found) = Sides s ns plain found
  Alike (Ok plain) (Err y) = ⊥
  Alike (Err x) (Ok found) = ⊥
  Alike (Err x) (Err y) = x ≡ y

  answers_alike : Alike (answers s Phrase ns) (ranked_answers s ns)
  unfolding answers ranked_answers
  answers_alike = by_test (eqb (length ns) 0) refl (decode_names s (different ns)) refl
    where
      by_test : (t : Bool) → eqb (length ns) 0 ≡ t → (r : Answer (List Term)) → decode_names s (different ns) ≡ r
          → Alike (cond t (Ok []) (r >>= λ ts. Ok (answer Phrase ns s.documents ts)))
          (cond t (Ok []) (r >>= λ ts. Ok (ranked_answer ns s.documents ts)))
      by_test true t r e = none_idle s ns (eqb-true (length ns) 0 t)
      by_test false t (Ok ts) e = asked_sides ts (omega (arith, eqb-false (length ns) 0 t)) e
      by_test false t (Err x) e = refl

  -- the ranked answer beside a plain one
  beside : (r : Answer (List ℕ)) (t : Answer (List Match)) → Alike r t → {plain : List ℕ} → r ≡ Ok plain
      → (found : List Match) × (t ≡ Ok found) × Sides s ns plain found
  beside (Ok js) (Ok found) a {plain} e = (found, refl, subst (λ (l : List ℕ). Sides s ns l found) (ok_same e) a)
  beside (Ok js) (Err y) a e = absurd a
  beside (Err x) (Ok found) a e = absurd a
  beside (Err x) (Err y) a e = refuse_ok e

  -- what is refused before the counts are looked at, 13 for ids included
  refused_alike : (r : Answer (List ℕ)) (t : Answer (List Match)) → Alike r t → (id_room count_room : ℕ) {x : Refusal}
      → (r >>= λ plain. roomy 1 (length plain) id_room >>= λ _. Ok plain) ≡ Err x
      → (t >>= λ found. roomy 1 (length found) id_room >>= λ _. roomy 2 (length found) count_room >>= λ _. Ok found) ≡ Err x
  refused_alike (Ok plain) (Ok found) a id_room count_room {x} e = rw a.long (by_room (leb (length plain) id_room) e)
    where
      by_room : (t : Bool) → (check t (no_room 1 (length plain)) >>= λ _. Ok plain) ≡ Err x
          → (check t (no_room 1 (length plain)) >>= λ _. roomy 2 (length plain) count_room >>= λ _. Ok found) ≡ Err x
      by_room true e = refuse_ok (sym e)
      by_room false e = cc
  refused_alike (Ok plain) (Err y) a id_room count_room e = absurd a
  refused_alike (Err x) (Ok found) a id_room count_room e = absurd a
  refused_alike (Err x) (Err y) a id_room count_room e = cc

-- ---- the two calls

-- a refusal in front stands in both
in_front : {A B : Type 0} (c : Answer (Unit {0})) (o : Answer Segment) (f : Segment → Answer A) (g : Segment → Answer B) {x : Refusal}
    → ((s : Segment) → o ≡ Ok s → f s ≡ Err x → g s ≡ Err x)
    → (c >>= λ _. o >>= f) ≡ Err x → (c >>= λ _. o >>= g) ≡ Err x
in_front (Ok u) (Ok s) f g h e = h s refl e
in_front (Ok u) (Err y) f g h e = cc
in_front (Err y) o f g h e = cc

module _ (bytes text ends : List ℕ) (id_room count_room : ℕ) where
  abbrev ns : List (List ℕ)
  ns = names 0 ends text

  refused : (x : Refusal) → search_text bytes Phrase text ends id_room ≡ Err x
      → search_ranked bytes text ends id_room count_room ≡ Err x
  unfolding search_text search search_ranked
  refused x e =
      in_front (check_question text ends) (open_segment bytes) _ _
      (λ s o. refused_alike s ns (opened_rises bytes o) (answers s Phrase ns) (ranked_answers s ns)
      (answers_alike s ns (opened_rises bytes o)) id_room count_room)
      e

  -- past the answer and 13 for ids
  goes_on : {u : Unit {0}} {s : Segment} {found : List Match} {n : ℕ} → check_question text ends ≡ Ok u → open_segment bytes ≡ Ok s
      → ranked_answers s ns ≡ Ok found → length found ≡ n → leb n id_room ≡ true
      → search_ranked bytes text ends id_room count_room ≡ (roomy 2 n count_room >>= λ _. Ok found)
  unfolding search_ranked
  goes_on c o b l fits = rw (c, o, b, l, fits)

  -- an open segment whose two answers these are; what is left of the ranked search is 13 for counts
  record Both (plain : List ℕ) : Type 0 where
    segment : Segment
    found : List Match
    opens : open_segment bytes ≡ Ok segment
    sides : Sides segment ns plain found
    goes_on : search_ranked bytes text ends id_room count_room ≡ (roomy 2 (length plain) count_room >>= λ _. Ok found)

  both : (plain : List ℕ) → search_text bytes Phrase text ends id_room ≡ Ok plain → Both plain
  unfolding search_text search
  both plain e =
      let (_, c, f) = bind_gives (check_question text ends) _ e in
      let (s, o, g) = bind_gives (open_segment bytes) _ f in
      let (js, a, h) = bind_gives (answers s Phrase ns) _ g in
      let (t, k) = check_gives (leb (length js) id_room) _ _ h in
      let same : js ≡ plain = ok_same k in
      let r = opened_rises bytes o in
      let (found, b, sides) = beside s ns r (answers s Phrase ns) (ranked_answers s ns) (answers_alike s ns r) (a ∙ ap Ok same) in
      let fits : leb (length plain) id_room ≡ true = rw same at t in
      record {
        segment = s;
        found = found;
        opens = o;
        sides = sides;
        goes_on = goes_on {found = found} c o b sides.long fits;
      }

  pub beside_plain : BesidePlain bytes text ends id_room count_room
  beside_plain = record {
    refused = refused;
    no_counts = λ plain e few. let b = both plain e in b.goes_on ∙ rw (lt-leb (length plain) count_room few);
    answered = λ plain e enough.
        let b = both plain e in (
          b.found,
          b.sides.own,
          b.goes_on ∙ rw (le-leb (length plain) count_room enough),
          record { segment = b.segment; opens = b.opens; positions = b.sides.positions },
          b.sides.ranking,
        );
  }

pub ranked_beside : RankedBeside
ranked_beside = beside_plain
