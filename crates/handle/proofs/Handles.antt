-- What a handle that is the bytes' own vouches for, by its level.
-- Assumes nothing.
use Rattle.std.specs.Prelude.{Err, Ok}
use mathlib.Core.Path.{◌≡◌, refl, ap, ◌∙◌}
use mathlib.Core.List.{List}
use mathlib.Core.Logic.{inl, inr, ⊎_elim}
use Prim.Native.Nat.{ℕ, ◌≤◌, ◌<◌}
use native.Mathlib.Omega.{arith}
use Rattle.common.proofs.Loops.{lt_or_ge}
use Rattle.segment.specs.declared.refusal.Refusal.{Refusal}
use Rattle.segment.specs.Results.{Answer}
use Rattle.segment.specs.Records.{Segment}
use Rattle.segment.specs.Opening.{open_segment}
use Rattle.segment.specs.Steps.{checked}
use Rattle.segment.proofs.Accepted.{passed_ok, refused_is}
use Rattle.calls.specs.Whole.{every_list, whole_segment}
use Rattle.calls.proofs.Whole.{whole_gives}
use Rattle.read_open.specs.declared.header.Layout.{Layout}
use Rattle.read_open.specs.Layouts.{layout_in}
use Rattle.read_open.specs.Opened.{Opens}
use Rattle.read_open.proofs.Fitting.{own_fits}
use Rattle.read_open.proofs.Own.{own_layout}
use Rattle.handle.specs.declared.handle.Handle.{Handle}
use Rattle.handle.specs.Handles.{accepted, refused, handled, opened_once, checked_once, HandleOf, Usable, Vouches}

-- ---- what the two calls answer, in the order of the code's tests

module _ (bytes : List ℕ) where
  module _ {x : Refusal} (shut : open_segment bytes ≡ Err x) where
    pub open_refused : refused x ≡ opened_once bytes
    open_refused = rw shut

    pub check_shut : refused x ≡ checked_once bytes
    unfolding whole_segment
    check_shut = rw shut

  module _ {l : Layout} (opens : Opens bytes (Ok l)) where
    pub open_accepted : accepted 1 l ≡ opened_once bytes
    open_accepted = rw (opens.1, opens.2.numbers)

    pub check_refused : {x : Refusal} → Err x ≡ checked (every_list opens.0) → refused x ≡ checked_once bytes
    unfolding whole_segment
    check_refused e = rw (opens.1, refused_is (every_list opens.0) e)

    pub check_accepted : Ok tt ≡ checked (every_list opens.0) → accepted 2 l ≡ checked_once bytes
    unfolding whole_segment
    check_accepted e = rw (opens.1, (passed_ok (every_list opens.0) e).1, opens.2.numbers)

-- ---- what their answer vouches for

-- above level 0 it was accepted
above : (level : ℕ) (l : Layout) (r : Answer Segment) → 1 ≤ (handled level l r).level → (s : Segment) × (r ≡ Ok s)
above level l (Ok s) h = (s, refl)
above level l (Err x) h = absurd (omega arith)

-- at level 0 it was refused, for the calls' levels are not 0
below : (level : ℕ) (l : Layout) (r : Answer Segment) → 1 ≤ level → (handled level l r).level ≡ 0
    → (x : Refusal) × (handled level l r ≡ refused x)
below level l (Ok s) h e = absurd (omega arith)
below level l (Err x) h e = (x, refl)

highest : (level : ℕ) (l : Layout) (r : Answer Segment) → level ≤ 2 → (handled level l r).level ≤ 2
highest level l (Ok s) h = h
highest level l (Err x) h = omega arith

module _ (bytes : List ℕ) where
  vouched : {s : Segment} {h : Handle} (level : ℕ) → h ≡ accepted level (layout_in bytes) → open_segment bytes ≡ Ok s
      → (level ≡ 2 → every_list s ≡ Ok tt) → Vouches bytes h
  vouched {s} level e o lists =
      rw e (record { segment = s; opens = o; is_open = own_layout bytes o; lists = lists })

  pub vouches : {h : Handle} → HandleOf bytes h → 1 ≤ h.level → Vouches bytes h
  vouches {h} (inl e) high =
      let (s, w) = above 2 (layout_in bytes) (whole_segment bytes) (rw e at high) in
      let (o, l) = whole_gives bytes w in
      vouched 2 (e ∙ ap (handled 2 (layout_in bytes)) w) o (λ _. l)
  vouches {h} (inr e) high =
      let (s, o) = above 1 (layout_in bytes) (open_segment bytes) (rw e at high) in
      vouched 1 (e ∙ ap (handled 1 (layout_in bytes)) o) o (λ q. absurd (omega arith))

  pub own_refused : {h : Handle} → HandleOf bytes h → h.level ≡ 0 → (x : Refusal) × (h ≡ refused x)
  own_refused (inl e) low =
      let (x, q) = below 2 (layout_in bytes) (whole_segment bytes) (omega arith) (rw e at low) in (x, e ∙ q)
  own_refused (inr e) low =
      let (x, q) = below 1 (layout_in bytes) (open_segment bytes) (omega arith) (rw e at low) in (x, e ∙ q)

  own_highest : {h : Handle} → HandleOf bytes h → h.level ≤ 2
  own_highest (inl e) = rw e (highest 2 (layout_in bytes) (whole_segment bytes) (omega arith))
  own_highest (inr e) = rw e (highest 1 (layout_in bytes) (open_segment bytes) (omega arith))

  -- an own handle above level 0 is used; so one that is not used is a refusal
  pub own_usable : {h : Handle} → HandleOf bytes h → 1 ≤ h.level → Usable bytes h
  own_usable of high = record { lowest = high; highest = own_highest of; fits = own_fits (vouches of high).is_open }

  pub unused_refused : {h : Handle} → HandleOf bytes h → (Usable bytes h → ⊥) → (x : Refusal) × (h ≡ refused x)
  unused_refused {h} of unused =
      ⊎_elim
      (λ (g : 0 < h.level). absurd (unused (own_usable of g)))
      (λ (g : h.level ≤ 0). own_refused of (omega arith))
      (lt_or_ge 0 h.level)
