-- Values stored one behind another into a lent buffer: what is still to be stored while a loop goes on, and the buffer's front at its end.
-- Assumes nothing.
use mathlib.Core.Path.{◌≡◌, refl, sym, ap, ap₂, ◌∙◌}
use mathlib.Core.List.{List, [], ◌∷◌, ◌++◌}
use Prim.Native.Nat.{ℕ, ◌+◌, ◌≤◌, ◌<◌}
use native.Mathlib.Omega.{arith}
use lib.ListN.{length, set, length-append}
use lib.Seq.{sets, length-sets}
use Rattle.common.proofs.Sets.{sets_append, sets_front}
use Rattle.calls.specs.Replies.{fronted}
use Rattle.common.specs.Stores.{Stored}

-- of values that are being stored: once those that are left are stored too, all are, and there is room for that
pub record ToStore (all : List ℕ) (at : ℕ) (entry left : List ℕ) (next : ℕ) (out : List ℕ) : Type 0 where
  pub past : next + length left ≡ at + length all
  pub same : sets out next left ≡ sets entry at all
  pub room : at + length all ≤ length out

-- a place in the buffer, which is as long as it was
pub record Room (next : ℕ) (out entry : List ℕ) : Type 0 where
  pub below : next < length out
  pub long : length out ≡ length entry

-- what is to come from a cursor, before the first turn
pub to_start : {all left entry : List ℕ} {at : ℕ} → left ≡ all → at + length all ≤ length entry → ToStore all at entry left at entry
to_start {entry = entry} {at = at} e h = record { past = ap (λ (l : List ℕ). at + length l) e; same = ap (sets entry at) e; room = h }

pub front_start : {all left entry : List ℕ} → left ≡ all → length all ≤ length entry → ToStore all 0 entry left 0 entry
front_start e h = to_start e (omega arith)

module _ {all entry left out : List ℕ} {at next : ℕ} (t : ToStore all at entry left next out) where
  -- the next part of what is left
  module _ (part more : List ℕ) (e : left ≡ part ++ more) where
    pub part_room : next + length part ≤ length out
    part_room = omega (arith, t.past, t.room, ap length e, length-append part more)

    pub part_next : {out' : List ℕ} {next' : ℕ} → Stored part next out next' out' → ToStore all at entry more next' out'
    part_next s = record {
      past = omega (arith, t.past, s.past, ap length e, length-append part more);
      same =
          ap₂ (λ (r : List ℕ) (k : ℕ). sets r k more) s.left s.past ∙ sym (sets_append out next part more)
          ∙ ap (sets out next) (sym e) ∙ t.same;
      room = omega (arith, t.room, ap length s.left, length-sets out next part);
    }

  pub still_long : length out ≡ length entry
  still_long = sym (length-sets out next left) ∙ ap length t.same ∙ length-sets entry at all

  -- the next value
  module _ {v : ℕ} {more : List ℕ} (e : left ≡ v ∷ more) where
    pub next_room : Room next out entry
    next_room = record { below = omega (arith, part_room (v ∷ []) more e); long = still_long }

    pub next_stored : ToStore all at entry more (next + 1) (set out next v)
    next_stored = part_next (v ∷ []) more e (record { past = refl; left = refl })

  -- none are left
  module _ (e : left ≡ []) where
    pub all_stored : Stored all at entry next out
    all_stored = record { past = omega (arith, t.past, ap length e); left = ap (sets out next) (sym e) ∙ t.same }

-- from the buffer's front on
pub at_front : {all entry out : List ℕ} {next : ℕ} → length all ≤ length entry → Stored all 0 entry next out → out ≡ fronted all entry
at_front {all} {entry} h s = s.left ∙ sets_front entry all h
