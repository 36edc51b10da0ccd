-- The map's refusals have other kinds than 20, saving's later ones other kinds than 18; which save is 22; and with room writing out has
-- other kinds than 13.
-- Assumes nothing.
use Rattle.std.specs.Prelude.{Err, None, Ok, Option, Some}
use mathlib.Core.Path.{◌≡◌, refl, sym, ap, ◌∙◌}
use mathlib.Core.Bool.{Bool, true, false, not, ◌&&◌}
use mathlib.Core.List.{List, [], ◌∷◌}
use mathlib.Core.Logic.{⊎_elim}
use Prim.Native.Nat.{ℕ, ◌+◌, ◌≤◌}
use native.Mathlib.Omega.{arith}
use lib.Dec.{ltb, leb, eqb}
use lib.ListN.{length}
use borrow.Author.Tests.{leb-true, le-leb, eqb-true}
use Rattle.common.proofs.Loops.{true_false, and_left, and_right}
use Rattle.utf8.specs.Utf8.{utf8}
use Rattle.segment.specs.Directory.{follows}
use Rattle.segment.specs.Refusals.{numbers, invalid_layout, invalid_utf8, list_shape, too_large, no_room, unknown_bar, already_held}
use Rattle.segment.specs.Refusals.{pad_full, velocity_range}
use Rattle.segment.specs.Refusals.{broken_pad, empty_term, terms_not_increasing, positions_not_increasing, written_position_exceeds_length}
use Rattle.segment.specs.Results.{Answer, ◌>>=◌, check}
use Rattle.segment.specs.Texts.{ends_fit, names}
use Rattle.segment.specs.Written.{segment_bytes}
use Rattle.segment.specs.declared.refusal.Refusal.{Refusal}
use Rattle.segment.proofs.Refused.{ok_refuse, refused_by}
use Rattle.segment.proofs.Shapes.{shape_is}
use Rattle.calls.specs.Given.{given}
use Rattle.calls.specs.Checks.{check_name, check_lists}
use Rattle.calls.specs.Writing.{write}
use Rattle.calls.proofs.Sizes.{segment_length}
use Rattle.pad_map.specs.Bars.{Bar, lookup, hits_in_all}
use Rattle.pad_map.specs.Rules.{all_up_to, all_audible, hits_rise, all_below, check_hits}
use Rattle.pad_map.specs.Acts.{is_some, save, found, read, write_out}
use Rattle.pad_map.proofs.Saved.{small_test, even_test, absent}
use Rattle.pad_map.proofs.Room.{other_passed}
use Rattle.pad_map.proofs.Outside.{velocity_exactly}
use Rattle.pad_words.specs.Words.{held}
use Rattle.pad_words.specs.Whole.{Whole, whole}
use Rattle.pad_words.specs.Calls.{held_bars, pad_save, pad_erase, pad_read, pad_write}
use Rattle.pad_words.proofs.Exactly.{whole_exactly}
use Rattle.claim_pad.specs.Written.{NamesShaped, map_lists}
use Rattle.claim_pad.specs.Claims.{check_used, used_names, most_bytes}
use Rattle.claim_pad.specs.Refusals.{BrokenExactly, HeldExactly, RangeExactly, NeverShort}
use Rattle.claim_pad.proofs.Acting.{holds_own, save_by_map, erase_by_map, read_by_map, write_by_map}
use Rattle.claim_pad.proofs.Writable.{names_decide}
use Rattle.claim_pad.proofs.Sized.{pad_takes}

-- ---- results that are never refused with a kind

module _ (kind : ℕ) where
  record Never {A : Type 0} (r : Answer A) : Type 0 where
    other : (x : Refusal) → r ≡ Err x → (numbers x).kind ≡ kind → ⊥

  never_ok : {A : Type 0} (a : A) → Never (Ok a)
  never_ok a = record { other = λ x e is. let z : ◌≡◌ {A = ℕ} 0 1 = cc in absurd (omega arith) }

  never_refuse : {A : Type 0} (x : Refusal) → ((numbers x).kind ≡ kind → ⊥) → Never {A = A} (Err x)
  never_refuse x h = record { other = λ y e is. let same : x ≡ y = cc in h (ap (λ (q : Refusal). (numbers q).kind) same ∙ is) }

  never_bind : {A B : Type 0} (r : Answer A) (f : A → Answer B) → Never r → ((a : A) → Never (f a)) → Never (r >>= f)
  never_bind (Ok a) f h g = g a
  never_bind (Err x) f h g = never_refuse x (h.other x refl)

  never_check : (t : Bool) (x : Refusal) → ((numbers x).kind ≡ kind → ⊥) → Never (check t x)
  never_check true x h = never_ok tt
  never_check false x h = never_refuse x h

  -- a check that has another kind, or passes, and what comes behind it
  never_then : {B : Type 0} (t : Bool) (x : Refusal) (f : Unit {0} → Answer B) → ((numbers x).kind ≡ kind → t ≡ true)
      → (t ≡ true → Never (f tt))
      → Never (check t x >>= f)
  never_then true x f h g = g refl
  never_then false x f h g = never_refuse x (λ is. true_false (sym (h is)))

  -- ---- the lists of a bar, 22 apart, and names: kinds up to 12

  module _ (high : 13 ≤ kind) where
    hits_never : (22 ≡ kind → ⊥) → (len : ℕ) (ss ts vs : List ℕ) → Never (check_hits len ss ts vs)
    unfolding check_hits
    hits_never apart len ss ts vs =
        never_then (small_test ss ts vs) too_large _ (λ e. absurd (omega arith)) (λ _.
        never_then (even_test ss ts vs) list_shape _ (λ e. absurd (omega arith)) (λ _.
        never_then (all_up_to 127 ss) too_large _ (λ e. absurd (omega arith)) (λ _.
        never_then (all_audible vs) velocity_range _ (λ e. absurd (apart e)) (λ _.
        never_then (hits_rise None ss ts) (invalid_layout positions_not_increasing) _ (λ e. absurd (omega arith)) (λ _.
        never_check (all_below len ts) (invalid_layout written_position_exceeds_length) (λ e. omega arith))))))

    name_never : (previous : Option (List ℕ)) (n : List ℕ) → Never (check_name previous n)
    unfolding check_name
    name_never previous n =
        never_then (utf8 n) invalid_utf8 _ (λ e. absurd (omega arith)) (λ _.
        never_then (ltb 0 (length n)) (invalid_layout empty_term) _ (λ e. absurd (omega arith)) (λ _.
        never_check (follows previous n) (invalid_layout terms_not_increasing) (λ e. omega arith)))

    used_never : (previous : Option (List ℕ)) (ns : List (List ℕ)) → Never (check_used previous ns)
    unfolding check_used
    used_never previous [] = never_ok tt
    used_never previous (n ∷ ns) = never_bind (check_name previous n) _ (name_never previous n) (λ u. used_never (Some n) ns)

    -- behind 12 and 11, only names are refused, and the room
    write_never : (pad text ends : List ℕ) (room : ℕ) → Whole pad → (13 ≡ kind → most_bytes text ≤ room)
        → Never (write_out (held pad) text ends room)
    unfolding write_out write
    write_never pad text ends room w roomy =
        never_then (leb (length text) 16777216 && leb (length ends) 16777216) too_large _ (λ e. absurd (omega arith)) (λ small.
        never_then (eqb (length ends) 128 && ends_fit 0 ends (length text)) list_shape _ (λ e. absurd (omega arith)) (λ shape.
        let shaped : NamesShaped text ends = record {
          small = leb-true (length text) 16777216 (and_left _ _ small);
          number = eqb-true (length ends) 128 (and_left _ _ shape);
          shape = (shape_is text ends).0 (and_right (eqb (length ends) 128) (ends_fit 0 ends (length text)) shape);
        } in
        let l = map_lists pad text ends in
        let bytes = segment_bytes (given l) in
        never_bind (check_lists l) _
        (rw (names_decide pad text ends w shaped) (used_never None (used_names (names 0 ends text) (held pad)))) (λ u.
        never_then (leb (length bytes) room) (no_room 1 (length bytes)) _
        (λ e. le-leb (length bytes) room (omega (arith, segment_length l, pad_takes pad text ends w shaped, roomy e))) (λ _.
        never_ok bytes))))

-- ---- 20

found_never : (o : Option Bar) → Never 20 (found o)
found_never None = never_refuse 20 unknown_bar (λ e. omega arith)
found_never (Some b) = never_ok 20 b

save_never : (bars : List Bar) (id len : ℕ) (ss ts vs : List ℕ) → Never 20 (save bars id len ss ts vs)
unfolding save
save_never bars id len ss ts vs =
    never_then 20 (not (is_some (lookup bars id))) already_held _ (λ e. absurd (omega arith)) (λ _.
    never_bind 20 (check_hits len ss ts vs) _ (hits_never 20 (omega arith) (λ e. omega arith) len ss ts vs) (λ u.
    never_then 20 (ltb (length bars) 256 && leb (hits_in_all bars + length ss) 8192) pad_full _ (λ e. absurd (omega arith)) (λ _.
    never_ok 20 _)))

read_never : (bars : List Bar) (id room room₂ room₃ : ℕ) → Never 20 (read bars id room room₂ room₃)
unfolding read
read_never bars id room room₂ room₃ =
    never_bind 20 (found (lookup bars id)) _ (found_never (lookup bars id)) (λ b.
    never_then 20 (leb (length b.hits) room) (no_room 1 (length b.hits)) _ (λ e. absurd (omega arith)) (λ _.
    never_then 20 (leb (length b.hits) room₂) (no_room 2 (length b.hits)) _ (λ e. absurd (omega arith)) (λ _.
    never_then 20 (leb (length b.hits) room₃) (no_room 3 (length b.hits)) _ (λ e. absurd (omega arith)) (λ _. never_ok 20 b))))

-- words that are no pad hold no map
broken : (pad : List ℕ) → (Whole pad → ⊥) → held_bars pad ≡ Err broken_pad
unfolding held_bars
broken pad un = step (whole pad) refl
  where
    step : (t : Bool) → whole pad ≡ t → (check t broken_pad >>= λ _. Ok (held pad)) ≡ Err broken_pad
    step true e = absurd (un ((whole_exactly pad).0 e))
    step false e = refl

own : (pad : List ℕ) → Whole pad → held_bars pad ≡ Ok (held pad)
own pad w = holds_own pad ((whole_exactly pad).1 w)

-- and any other refusal is a pad's
other_whole : {A : Type 0} (pad : List ℕ) (f : List Bar → Answer A) {x : Refusal} → ((numbers x).kind ≡ 20 → ⊥)
    → (held_bars pad >>= f) ≡ Err x
    → Whole pad
other_whole {A} pad f {x} h e = step (whole pad) refl
  where
    step : (t : Bool) → whole pad ≡ t → Whole pad
    step true is = (whole_exactly pad).0 is
    step false is =
        let told = broken pad (λ w. true_false (sym ((whole_exactly pad).1 w) ∙ is)) in
        let z : ◌≡◌ {A = Answer A} (Err broken_pad) (Err x) = rw told at e in
        let same : broken_pad ≡ x = cc in
        absurd (h (ap (λ (q : Refusal). (numbers q).kind) (sym same)))

pub broken_exactly : BrokenExactly
unfolding pad_save pad_erase pad_read pad_write
broken_exactly pad = record {
  save = λ id len ss ts vs. (
    λ e w. (save_never (held pad) id len ss ts vs).other broken_pad (sym (save_by_map pad (held pad) (own pad w) id len ss ts vs) ∙ e) refl,
    λ un. rw (broken pad un),
  );
  erase = λ id. (
    λ e w. (found_never (lookup (held pad) id)).other broken_pad (sym (erase_by_map pad (held pad) (own pad w) id) ∙ e) refl,
    λ un. rw (broken pad un),
  );
  read = λ id m n o. (
    λ e w. (read_never (held pad) id m n o).other broken_pad (sym (read_by_map pad (held pad) (own pad w) id m n o) ∙ e) refl,
    λ un. rw (broken pad un),
  );
  write = λ text ends room. (
    λ e w.
        (write_never 20 (omega arith) pad text ends room w (λ is. absurd (omega arith))).other broken_pad
        (sym (write_by_map pad (held pad) (own pad w) text ends room) ∙ e) refl,
    λ un. rw (broken pad un),
  );
}

-- ---- 18

free_never : (bars : List Bar) (id len : ℕ) (ss ts vs : List ℕ) → lookup bars id ≡ None → Never 18 (save bars id len ss ts vs)
unfolding save
free_never bars id len ss ts vs free =
    rw free
    (never_bind 18 (check_hits len ss ts vs) _ (hits_never 18 (omega arith) (λ e. omega arith) len ss ts vs) (λ u.
    never_then 18 (ltb (length bars) 256 && leb (hits_in_all bars + length ss) 8192) pad_full _ (λ e. absurd (omega arith)) (λ _.
    never_ok 18 _)))

taken : (bars : List Bar) (id len : ℕ) (ss ts vs : List ℕ) (o : Option Bar) → lookup bars id ≡ o → (o ≡ None → ⊥)
    → save bars id len ss ts vs ≡ Err already_held
unfolding save
taken bars id len ss ts vs None e h = absurd (h refl)
taken bars id len ss ts vs (Some b) e h = rw e

pub held_exactly : HeldExactly
unfolding pad_save
held_exactly pad id len ss ts vs = (
  λ e.
      let w = other_whole pad _ (λ k. omega arith) e in
      let is = save_by_map pad (held pad) (own pad w) id len ss ts vs in
      (w, λ free. (free_never (held pad) id len ss ts vs free).other already_held (sym is ∙ e) refl),
  λ (w, h). save_by_map pad (held pad) (own pad w) id len ss ts vs ∙ taken (held pad) id len ss ts vs (lookup (held pad) id) refl h,
)

-- ---- 22

range_gives : (bars : List Bar) (id len : ℕ) (ss ts vs : List ℕ) → save bars id len ss ts vs ≡ Err velocity_range
    → (lookup bars id ≡ None) × (check_hits len ss ts vs ≡ Err velocity_range)
unfolding save
range_gives bars id len ss ts vs e =
    let (free, f) = other_passed (not (is_some (lookup bars id))) already_held _ (λ z. omega arith) e in (
      absent (lookup bars id) free,
      ⊎_elim
          (λ r. r)
          (λ (_, _, g).
          let (_, h) = other_passed (ltb (length bars) 256 && leb (hits_in_all bars + length ss) 8192) pad_full _ (λ z. omega arith) g in
          ok_refuse h)
          (refused_by (check_hits len ss ts vs) _ f),
    )

range_from : (bars : List Bar) (id len : ℕ) (ss ts vs : List ℕ) → lookup bars id ≡ None
    → check_hits len ss ts vs ≡ Err velocity_range
    → save bars id len ss ts vs ≡ Err velocity_range
unfolding save
range_from bars id len ss ts vs free e = rw (free, e)

pub range_exactly : RangeExactly
unfolding pad_save
range_exactly pad id len ss ts vs = (
  λ e.
      let w = other_whole pad _ (λ k. omega arith) e in
      let (free, out) = range_gives (held pad) id len ss ts vs (sym (save_by_map pad (held pad) (own pad w) id len ss ts vs) ∙ e) in
      (w, free, (velocity_exactly len ss ts vs).0 out),
  λ (w, free, out).
      save_by_map pad (held pad) (own pad w) id len ss ts vs
      ∙ range_from (held pad) id len ss ts vs free ((velocity_exactly len ss ts vs).1 out),
)

-- ---- 13

pub never_short : NeverShort
unfolding pad_write
never_short pad text ends room enough needed e =
    let w = other_whole pad _ (λ k. omega arith) e in
    (write_never 13 (omega arith) pad text ends room w (λ _. enough)).other (no_room 1 needed)
    (sym (write_by_map pad (held pad) (own pad w) text ends room) ∙ e) refl
