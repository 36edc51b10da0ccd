-- What an answer leaves, whatever the layout: names are made up of the entries that were found, so that they tell these apart, and what
-- holds of an answer for all names is taken for them.
-- Assumes nothing.
use Rattle.std.specs.Prelude.{None, Option, Some}
use Rattle.segment.specs.Results.{Answer}
use Rattle.read_terms.specs.declared.find.TermList.{TermList}
use Prim.Native.Nat.{ℕ, ◌≤◌, ◌<◌}
use mathlib.Core.Path.{◌≡◌, refl, sym, ap, ◌∙◌}
use mathlib.Core.Bool.{false}
use mathlib.Core.List.{List, [], ◌∷◌}
use mathlib.Core.Logic.{⊎_elim}
use native.Mathlib.Omega.{arith}
use lib.ListN.{length, get_or, take}
use Rattle.std.proofs.lemmas.List.{get_or-take, length-take-le}
use Rattle.common.proofs.Loops.{lt_or_ge}
use Rattle.rules.specs.declared.rule.Rule.{Rule}
use Rattle.calls.specs.Lookups.{positions_of}
use Rattle.calls.specs.Kept.{Kept}
use Rattle.read_open.specs.declared.header.Layout.{Layout}
use Rattle.read_terms.specs.Steps.{ListInside, TermIsFound}
use Rattle.ask_names.specs.declared.slots.Names.{Names}
use Rattle.ask_names.specs.Steps.{no_list, Founds, none_left, one_more, slot_for, InSlots}
use Rattle.ask_names.specs.Lists.{ListsInside}
use Rattle.ask_names.proofs.SlotTurns.{slot_finds, slot_skips}
use Rattle.ask_names.proofs.SlotsHold.{founds_length}
use Rattle.ask_names.proofs.SlotsNamed.{ToldApart, Holding, holding_all, list_at}
use Rattle.ask_names.proofs.SlotsUsed.{slot_list, slot_below, in_slots, numbers}
use Rattle.ask_answer.specs.Steps.{held_list, Fitting, found_in, ListsAnswered, NamedBy}
use Rattle.ask_answer.proofs.Walked.{replies_kept}

-- ---- names made up

abbrev made_up : Option TermList → List ℕ
made_up (Some l) = l.entry ∷ []
made_up None = []

abbrev made_ups : List (Option TermList) → List (List ℕ)
made_ups [] = []
made_ups (f ∷ fs) = made_up f ∷ made_ups fs

abbrev EntryNamed : (bytes : List ℕ) → List ℕ → Option TermList → Type 0
EntryNamed bytes n (Some l) = (n ≡ (l.entry ∷ [])) × ListInside bytes l
EntryNamed bytes n None = n ≡ []

told : (bytes : List ℕ) → ToldApart (EntryNamed bytes)
told bytes = record {
  alike = λ a b l k r q.
      (λ e. let f : (l.entry ∷ []) ≡ (k.entry ∷ []) = sym r.0 ∙ e ∙ q.0 in cc, λ e. r.0 ∙ ap (λ x. x ∷ []) e ∙ sym q.0);
  absent = λ a l r q. let f : (l.entry ∷ []) ≡ [] = sym r.0 ∙ q in let z : ◌≡◌ {A = ℕ} 0 1 = cc in omega arith;
}

module _ (bytes : List ℕ) (at : Layout) where
  named_so : (n : List ℕ) (f : Option TermList) → TermIsFound bytes at n f → EntryNamed bytes (made_up f) f
  named_so n (Some l) r = (refl, r.0)
  named_so n None r = refl

  renamed : {ns : List (List ℕ)} {fs : List (Option TermList)} → Founds (TermIsFound bytes at) ns fs
      → Founds (EntryNamed bytes) (made_ups fs) fs
  renamed none_left = none_left
  renamed (one_more {n = n} {f = f} r w) = one_more (named_so n f r) (renamed w)

abbrev head_of : List ℕ → ℕ
head_of [] = 0
head_of (x ∷ xs) = x

module _ {bytes : List ℕ} {at : Layout} {s : Names} (w : NamedBy bytes at s) where
  abbrev pub names : List (List ℕ)
  names = made_ups w.resolved.founds

  count_same : length names ≡ length w.names
  count_same = sym (founds_length (renamed bytes at w.resolved.each)) ∙ founds_length w.resolved.each

  held : Holding (EntryNamed bytes) names s
  held = rw w.resolved.slots (holding_all (told bytes) (renamed bytes at w.resolved.each) (omega (arith, count_same, w.few)))

  pub any_long : length s.list ≡ 128
  any_long = held.sound.list_long

  pub any_few : s.different ≤ 128
  any_few = omega (arith, held.sound.few, held.taken, count_same, w.few)

  pub any_inside : ListsInside bytes at (take s.different s.list)
  any_inside = record {
    ordered = w.fits.ordered;
    each = λ k h.
        let few : s.different ≤ length s.list = omega (arith, any_few, held.sound.list_long) in
        let g : k < s.different = omega (arith, length-take-le s.different s.list few) in
        rw (get_or-take s.different s.list k no_list g) (held.owned k g).2.1;
  }

  named : 0 < s.taken
  named = omega (arith, held.taken, count_same, w.some)

  pub any_room : s.taken ≤ 128
  any_room = omega (arith, held.taken, count_same, w.few)

  module _ (present : s.absent ≡ false) where
    pub any_below : (i : ℕ) → i < s.taken → get_or s.slot i 0 < s.different
    any_below = slot_below (told bytes) names s held present

    pub any_slots : InSlots s.taken s.slot × (0 < s.different) × (s.different ≤ 128)
    any_slots = (
      in_slots (told bytes) names s held present (omega (arith, count_same, w.few)),
      omega (arith, any_below 0 named),
      any_few,
    )

    -- the number of a term by its entry
    number_is : (k : ℕ) → k < s.different → slot_for s.different s.list (list_at s k).entry ≡ k
    number_is k g =
        let x = (list_at s k).entry in
        let j = slot_for s.different s.list x in
        ⊎_elim
        (λ (h : j < s.different). held.once j k h g (slot_finds s.different 0 s.list x (omega arith)))
        (λ (h : s.different ≤ j). absurd (slot_skips s.different 0 s.list x k (omega arith) (omega arith) refl))
        (lt_or_ge j s.different)

    pub own : ℕ → List ℕ → List ℕ
    own d nm = positions_of (held_list bytes s.list (slot_for s.different s.list (head_of nm))) d

    pub fitting : Fitting bytes s own names
    unfolding own
    fitting = record {
      numbered = numbers (told bytes) names s held present;
      named = named;
      positions = λ d i g.
          ap (λ k. positions_of (held_list bytes s.list k) d)
          (ap (λ nm. slot_for s.different s.list (head_of nm)) (slot_list (told bytes) names s held present i g).0
          ∙ number_is (get_or s.slot i 0) (any_below i g));
    }

    pub any_kept : {a : Rule} {b : ℕ} {ids : List ℕ} {r : (Answer ℕ)} {ids' : List ℕ} → ListsAnswered b bytes a s ids r ids'
        → Kept ids r ids'
    any_kept {a} {b} {ids} v = replies_kept (found_in bytes s b a own names) ids (v.replies own names fitting)
