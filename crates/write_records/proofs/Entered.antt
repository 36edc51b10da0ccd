-- The writer over the lists that hold the records' ids and lengths is the call over records.
-- Assumes nothing.
use Rattle.std.specs.Prelude.{Err, Ok}
use mathlib.Core.Path.{◌≡◌, refl, sym, ap, ◌∙◌, subst}
use mathlib.Core.Bool.{Bool, true, false, cond, ◌&&◌}
use mathlib.Core.List.{List}
use Prim.Native.Nat.{ℕ}
use lib.Dec.{leb, eqb}
use lib.ListN.{length, length-map}
use borrow.Author.Tests.{eqb-true, eq-eqb}
use Rattle.common.proofs.Loops.{and_left, and_right}
use Rattle.segment.specs.declared.refusal.Refusal.{Refusal}
use Rattle.segment.specs.Refusals.{too_large, list_shape}
use Rattle.segment.specs.Results.{Answer}
use Rattle.segment.specs.Steps.{checked}
use Rattle.calls.specs.Given.{Lists, lists}
use Rattle.calls.specs.Checks.{small, check_lists}
use Rattle.calls.specs.Writing.{write, write_records}
use Rattle.write_segment.specs.Promise.{Wrote}
use Rattle.segment.proofs.Accepted.{refused_is, passed_ok}
use Rattle.write_records.specs.declared.exchange.DocumentLength.{DocumentLength}
use Rattle.write_records.specs.Promise.{taken_apart, WroteRecords}
use Rattle.write_records.specs.Steps.{Three, three, exchanged, others, misfit, check_places, write_apart, WroteApart}
use Rattle.write_records.proofs.Exchanging.{given_back, ids_taken, lengths_taken, ids_long, lengths_long}

either : {P : Type 0} (t : Bool) → (t ≡ true → P) → (t ≡ false → P) → P
either true f g = f refl
either false f g = g refl

one_refusal : (t : Bool) (x y : Refusal) → ◌≡◌ {A = Answer (Unit {0})} (cond t (Err x) (Err y)) (Err (cond t x y))
one_refusal true x y = refl
one_refusal false x y = refl

-- ---- the covered function

module _ (count : ℕ) (l : Lists) (out : List ℕ) where
  pub apart_refused : {x : Refusal} → Err x ≡ checked (check_places count l) → WroteApart count l out (Err x) out
  unfolding write_apart
  apart_refused e = let r = refused_is (check_places count l) e in record { reply = rw r; left = rw r }

  pub apart_wrote : {r : (Answer ℕ)} {out' : List ℕ} → (Ok tt) ≡ checked (check_places count l) → Wrote l out r out'
      → WroteApart count l out r out'
  unfolding write_apart
  apart_wrote e w = let (u, p) = passed_ok (check_places count l) e in record { reply = w.reply ∙ rw p; left = w.left ∙ rw p }

-- ---- 12 over what is handed in: the ends instead of the lists change nothing, since they are tested too

twice_tested : (n e t a b c d : Bool) → n && (e && e && t && e && a && b && c && d) ≡ n && n && t && e && a && b && c && d
twice_tested false e t a b c d = refl
twice_tested true true t a b c d = refl
twice_tested true false true a b c d = refl
twice_tested true false false a b c d = refl

-- with a place for each record, the call over records is the writer's
pub places_agree : (l : Lists) (room : ℕ) → write_records l (length l.ids) (length l.ids) room ≡ write l room
unfolding write_records write check_lists
places_agree l room =
    let same = eq-eqb (length l.ids) (length l.ids) refl in
    either (small l) (λ s. rw (same, s)) (λ s. rw s)

module _ (ds : List DocumentLength) (xs ys text ends posting_counts posting_ids position_counts positions : List ℕ) where
  -- the lists handed in, and as they are while the records are taken apart
  abbrev pub handed_in : Lists
  handed_in = taken_apart ds text ends posting_counts posting_ids position_counts positions

  abbrev pub standing : Lists
  standing = lists (exchanged ds xs ys).ids (exchanged ds xs ys).lengths text ends posting_counts posting_ids position_counts positions

  count_is : length handed_in.ids ≡ length ds
  count_is = length-map ds _

  lengths_count : length handed_in.lengths ≡ length ds
  lengths_count = length-map ds _

  small_is : leb (length ds) 16777216 && small (others standing) ≡ small handed_in
  unfolding small
  small_is =
      rw (count_is, lengths_count)
      (twice_tested (leb (length ds) 16777216) (leb (length ends) 16777216) (leb (length text) 16777216)
      (leb (length posting_counts) 16777216) (leb (length posting_ids) 16777216) (leb (length position_counts) 16777216)
      (leb (length positions) 16777216))

  pub fits_standing : length xs ≡ length ds → length ys ≡ length ds → standing ≡ handed_in
  fits_standing e f = rw (ids_taken ds xs ys e f, lengths_taken ds xs ys e f)

  -- the test of the two lent lists, by what is handed in
  pub places_fit : length xs ≡ length ds → length ys ≡ length ds → check_places (length ds) standing ≡ Ok tt
  unfolding check_places
  places_fit e f = rw (ids_long ds xs ys, lengths_long ds xs ys, eq-eqb _ _ e, eq-eqb _ _ f)

  pub places_misfit : (length xs ≡ length ds → length ys ≡ length ds → ⊥)
      → check_places (length ds) standing ≡ Err (cond (small handed_in) list_shape too_large)
  unfolding check_places misfit
  places_misfit differ =
      let a = eqb (length xs) (length ds) in
      let b = eqb (length ys) (length ds) in
      either (a && b) (λ t. absurd (differ (eqb-true (length xs) (length ds) (and_left a b t))
      (eqb-true (length ys) (length ds) (and_right a b t))))
      (λ t. rw (ids_long ds xs ys, lengths_long ds xs ys, t, small_is) (one_refusal (small handed_in) list_shape too_large))

  both_fit : (room : ℕ) → length xs ≡ length ds → length ys ≡ length ds
      → write standing room ≡ write_records handed_in (length xs) (length ys) room
  both_fit room e f =
      ap (λ (l : Lists). write l room) (fits_standing e f) ∙ sym (places_agree handed_in room)
      ∙ ap (λ (n : ℕ). write_records handed_in n (length handed_in.ids) room) (count_is ∙ sym e)
      ∙ ap (λ (n : ℕ). write_records handed_in (length xs) n room) (count_is ∙ sym f)

  pub apart_is : (room : ℕ) → write_apart (length ds) standing room ≡ write_records handed_in (length xs) (length ys) room
  unfolding write_apart check_places misfit write_records
  apart_is room =
      let i = ids_long ds xs ys in
      let j = lengths_long ds xs ys in
      let a = eqb (length xs) (length ds) in
      let b = eqb (length ys) (length ds) in
      either (a && b)
      (λ t.
      let e = eqb-true (length xs) (length ds) (and_left a b t) in
      let f = eqb-true (length ys) (length ds) (and_right a b t) in
      let lhs : write_apart (length ds) standing room ≡ write standing room = rw (i, j, t) in
      lhs ∙ both_fit room e f)
      (λ t. either (small handed_in) (λ s. rw (i, j, t, small_is, s, count_is, t)) (λ s. rw (i, j, t, small_is, s)))

  -- everything lent, as it is afterwards
  pub wrote_records : {out out' : List ℕ} {r : (Answer ℕ)} → WroteApart (length ds) standing out r out'
      → WroteRecords handed_in ds xs ys out r ds xs ys out'
  wrote_records {out} w = record {
    reply = w.reply ∙ rw (apart_is (length out));
    left = w.left ∙ rw (apart_is (length out));
    records_left = refl;
    ids_left = refl;
    lengths_left = refl;
  }

  -- exchanged, written and exchanged back
  pub wrote_between : {ds' ds'' : List DocumentLength} {xs' ys' xs'' ys'' out out' : List ℕ} {r : (Answer ℕ)}
      → three ds' xs' ys' ≡ exchanged ds xs ys → three ds'' xs'' ys'' ≡ exchanged ds' xs' ys' → length ds' ≡ length ds
      → WroteApart (length ds') (lists xs' ys' text ends posting_counts posting_ids position_counts positions) out r out'
      → WroteRecords handed_in ds xs ys out r ds'' xs'' ys'' out'
  wrote_between {ds'} {ds''} {xs'} {ys'} {xs''} {ys''} {out} {out'} {r} e f long w =
      let lists_of : List ℕ → List ℕ → Lists = λ is ls. lists is ls text ends posting_counts posting_ids position_counts positions in
      let counted = subst (λ (n : ℕ). WroteApart n (lists_of xs' ys') out r out') long w in
      let taken = subst (λ (z : Three). WroteApart (length ds) (lists_of z.ids z.lengths) out r out') e counted in
      subst (λ (z : Three). WroteRecords handed_in ds xs ys out r z.documents z.ids z.lengths out')
      (sym (given_back e f)) (wrote_records taken)
