-- A window that slides over a name's positions: a cursor at its left edge, one past its right edge, and the number of positions between.
-- Assumes nothing.
use Prim.Native.Nat.{ℕ, ◌+◌, ◌-◌, ◌≤◌, ◌<◌}
use mathlib.Core.Path.{◌≡◌, refl, sym, ap, ◌∙◌}
use mathlib.Core.List.{List}
use mathlib.Core.Logic.{⊎_elim}
use native.Mathlib.Omega.{arith}
use lib.ListN.{length, get_or, set}
use lib.Seq.{get_or-set_same, get_or-set_other}
use Rattle.common.proofs.Loops.{lt_or_ge}
use Rattle.read_cursors.specs.declared.positions.Positions.{Positions}
use Rattle.read_cursors.specs.Steps.{positions_from}
use Rattle.read_cursors.proofs.Seeks.{seek_stop, seek_end, seek_length, seek_twice}
use Rattle.read_cursors.proofs.Rising.{from_rise}
use Rattle.ask_match.specs.declared.pass.Moved.{Moved}
use Rattle.rules.specs.Words.{within}
use Rattle.ask_match.specs.Steps.{Changed, PassedIn, WindowsOpen, shows, Passed}
use Rattle.ask_match.proofs.Members.{onward, ahead}
use Rattle.ask_match.proofs.Leap.{Same}
use Rattle.ask_match.proofs.Places.{by_place, same_but}
use Rattle.ask_match.proofs.Counts.{within_count, within_onward}

-- a copy shows the same
pub windows_show : {n : ℕ} {old new : ℕ → Positions} {seen : List ℕ} (b : List ℕ) (window : ℕ) (wanted : List ℕ)
    → WindowsOpen n old new seen → (j : ℕ) → j < n → (s : ℕ) → shows b window wanted new j s ≡ shows b window wanted old j s
windows_show b window wanted o j h s = rw (o.copied j h)

-- from the right edge on both cursors show the same, and `seen` is what lies between them
pub record View (b : List ℕ) (edge : ℕ) (l r : Positions) (seen : ℕ) : Type 0 where
  pub later : (u : ℕ) → edge ≤ u → onward u (positions_from b r) ≡ onward u (positions_from b l)
  pub count : seen + length (positions_from b r) ≡ length (positions_from b l)

-- of each of n names
pub record Views (b : List ℕ) (edge n : ℕ) (ls rs : ℕ → Positions) (seen : List ℕ) : Type 0 where
  pub at : (j : ℕ) → j < n → View b edge (ls j) (rs j) (get_or seen j 0)

pub views_start : (b : List ℕ) (edge : ℕ) {n : ℕ} {ls rs : ℕ → Positions} {seen : List ℕ} → WindowsOpen n rs ls seen
    → Views b edge n ls rs seen
views_start b edge o = record {
  at = λ j h. rw (o.copied j h) (record { later = λ u k. refl; count = omega (arith, o.none_seen j h) });
}

pub views_up : {b : List ℕ} {edge n : ℕ} {ls rs : ℕ → Positions} {seen : List ℕ} (more : ℕ) → Views b edge n ls rs seen → edge ≤ more
    → Views b more n ls rs seen
views_up more v up = record { at = λ j h. record { later = λ u k. (v.at j h).later u (omega arith); count = (v.at j h).count } }

pub views_set : {b : List ℕ} {edge n : ℕ} {ls rs ls' rs' : ℕ → Positions} {seen : List ℕ} {i : ℕ} {l r : Positions} {have : ℕ}
    → Views b edge n ls rs seen → Changed i l ls ls' → Changed i r rs rs' → i < length seen → View b edge l r have
    → Views b edge n ls' rs' (set seen i have)
views_set {b} {edge} {n} {ls} {rs} {ls'} {rs'} {seen} {i} {l} {r} {have} v cl cr hs w = record {
  at = λ j h. by_place
      (λ k. View b edge (ls' k) (rs' k) (get_or (set seen i have) k 0)) i j
      (rw (cl.here, cr.here, get_or-set_same seen i have 0 hs) w)
      (λ ne. rw (cl.other j ne, cr.other j ne, get_or-set_other seen i j have 0 ne) (v.at j h));
}

-- a window's count by its two edges
counted : (b : List ℕ) (c : Positions) (s window edge : ℕ) → edge ≡ s + window + 1
    → within s window (positions_from b c) + length (onward edge (positions_from b c)) ≡ length (onward s (positions_from b c))
counted b c s window edge e = within_count s window edge e _ (positions_from b c) (from_rise b c.remaining c.at c.pos.0)

-- what the two passes of a turn tell of the window of one name, brought to start
pub record Slid (b : List ℕ) (start window span : ℕ) (l r : Positions) (seen : ℕ) (left right : Moved) : Type 0 where
  pub enough : left.passed ≤ seen + right.passed
  pub view : View b (start + span) left.to right.to (seen + right.passed - left.passed)
  pub count : within start window (positions_from b left.to) ≡ seen + right.passed - left.passed
  pub ended : (s : ℕ) → start ≤ s → right.to.remaining ≡ 0
      → within s window (positions_from b left.to) ≤ seen + right.passed - left.passed
  pub next : (s : ℕ) → start ≤ s → seen + right.passed - left.passed < within s window (positions_from b left.to)
      → right.to.pos.0 < s + span

module _ (b : List ℕ) (start window span : ℕ) {l r : Positions} {seen : ℕ} {left right : Moved} (wide : span ≡ window + 1)
    (v : View b (start + span) l r seen) (pr : Passed b (start + span) r right) (pl : Passed b start l left) where
  later_on : (u : ℕ) → start + span ≤ u → onward u (positions_from b right.to) ≡ onward u (positions_from b left.to)
  later_on u h =
      ap (onward u) pr.holds ∙ seek_twice _ (start + span) u (positions_from b r) h ∙ v.later u h
      ∙ sym (seek_twice _ start u (positions_from b l) (omega arith)) ∙ sym (ap (onward u) pl.holds)

  -- a cursor that was moved to a target shows nothing below it
  still : (t : ℕ) (c : Positions) (m : Moved) → Passed b t c m → positions_from b m.to ≡ onward t (positions_from b m.to)
  still t c m p = p.holds ∙ sym (seek_twice _ t t (positions_from b c) (omega arith)) ∙ sym (ap (onward t) p.holds)

  right_is : positions_from b right.to ≡ onward (start + span) (positions_from b left.to)
  right_is = still (start + span) r right pr ∙ later_on (start + span) (omega arith)

  fits : left.passed ≤ seen + right.passed
  fits =
      omega (
        arith,
        v.count,
        pr.count,
        pl.count,
        ap length right_is,
        seek_length (λ (p : ℕ). p) (start + span) (positions_from b left.to),
      )

  slid : View b (start + span) left.to right.to (seen + right.passed - left.passed)
  slid = record { later = later_on; count = omega (arith, v.count, pr.count, pl.count, fits) }

  slid_count : within start window (positions_from b left.to) ≡ seen + right.passed - left.passed
  slid_count =
      omega (
        arith,
        slid.count,
        ap length (still start l left pl),
        ap length right_is,
        counted b left.to start window (start + span) (omega arith),
      )

  -- a start whose right edge brings nothing new has no more than this one
  no_more : (s : ℕ) → start ≤ s → positions_from b right.to ≡ onward (s + span) (positions_from b right.to)
      → within s window (positions_from b left.to) ≤ seen + right.passed - left.passed
  no_more s h e =
      omega (
        arith,
        slid.count,
        counted b left.to s window (s + span) (omega arith),
        seek_length (λ (p : ℕ). p) s (positions_from b left.to),
        ap length (e ∙ later_on (s + span) (omega arith)),
      )

  pub slide : Slid b start window span l r seen left right
  slide = record {
    enough = fits;
    view = slid;
    count = slid_count;
    ended = λ s h e. no_more s h (seek_end _ (ahead b right.to) refl (omega arith));
    next = λ s h k. ⊎_elim (λ y. y) (λ y. absurd (omega (arith, no_more s h (seek_stop _ (ahead b right.to) refl y))))
        (lt_or_ge right.to.pos.0 (s + span));
  }

module _ {b : List ℕ} {start i : ℕ} {ls new : ℕ → Positions} {left : Moved} (window : ℕ) (wanted : List ℕ)
    (pl : PassedIn b start i ls new left) where
  -- the left cursor moved to start shows the same from there on
  pub slid_same : Same start (shows b window wanted ls) (shows b window wanted new)
  slid_same =
      same_but (λ j c s. get_or wanted j 0 ≤ within s window (positions_from b c)) pl.stored
      (λ s k m. rw (pl.passed.holds, within_onward start s window (positions_from b (ls i)) k) m)
      (λ s k m. rw (pl.passed.holds, within_onward start s window (positions_from b (ls i)) k) at m)

  pub shown : (s : ℕ) → get_or wanted i 0 ≤ within s window (positions_from b left.to) → shows b window wanted new i s
  shown s m = rw pl.stored.here m

  pub shown_back : (s : ℕ) → shows b window wanted new i s → get_or wanted i 0 ≤ within s window (positions_from b left.to)
  shown_back s m = rw pl.stored.here at m
