-- What is refused, in words: each of the four tests in their order, then 13.
-- Assumes nothing.
use Rattle.std.specs.Prelude.{Err, None, Ok, Option, Some}
use mathlib.Core.Path.{◌≡◌, refl, sym, ap, ◌∙◌, subst}
use mathlib.Core.List.{List}
use mathlib.Core.Logic.{◌⊎◌, ⊎_elim, inl, inr}
use Prim.Native.Nat.{ℕ, ◌≤◌, ◌<◌}
use native.Mathlib.Omega.{arith}
use lib.Dec.{leb}
use lib.ListN.{length}
use borrow.Author.Tests.{leb-true, leb-false, le-leb, lt-leb}
use Rattle.segment.specs.declared.refusal.Refusal.{Refusal}
use Rattle.segment.specs.Refusals.{numbers, unknown_bar, bar_too_long, no_room}
use Rattle.segment.specs.Results.{check, roomy}
use Rattle.segment.specs.Records.{Segment}
use Rattle.segment.specs.Metadata.{length_of}
use Rattle.segment.specs.Opening.{open_segment}
use Rattle.segment.specs.Contents.{decode_all}
use Rattle.segment.proofs.Binds.{bind_gives, ok_same}
use Rattle.segment.proofs.Accepted.{check_gives}
use Rattle.segment.proofs.Refused.{ok_refuse, refuse_same, refused_by, check_refuses}
use Rattle.segment.proofs.Inversions.{last_gives}
use Rattle.calls.specs.Sheet.{known_bar, bar_sheet, sheet_into}
use Rattle.claim_sheet.specs.Claims.{HasBar, FirstRefused, Refused, opening, unknown, too_long, decoding}
use Rattle.claim_sheet.specs.Claims.{RefusesExactly, UnknownExactly, TooLongExactly, OtherKinds, NoRoomLast, RoomEnough}
use Rattle.claim_sheet.proofs.BarKnown.{bar_gives, bar_from, none_gives, none_from}
use Rattle.claim_sheet.proofs.InOrder.{first_gives, first_from}
use Rattle.claim_sheet.proofs.Early.{opening_early, decoding_early}
use Rattle.claim_sheet.proofs.Agreed.{known_some}

bar_refuses : (o : Option ℕ) {x : Refusal} → known_bar o ≡ Err x → (o ≡ None) × (unknown_bar ≡ x)
bar_refuses None e = (refl, refuse_same e)
bar_refuses (Some len) e = ok_refuse e

-- ---- the tests one after the other

module _ (bytes : List ℕ) (id : ℕ) (x : Refusal) where
  module _ {s : Segment} (opens : open_segment bytes ≡ Ok s) where
    abbrev there : Option ℕ
    there = length_of s.documents id

    no_bar : known_bar there ≡ Err x → Refused bytes id x
    no_bar e = let (k, is) = bar_refuses there e in subst (Refused bytes id) is (unknown opens (none_gives bytes opens id k))

    module _ {len : ℕ} (k : known_bar there ≡ Ok len) where
      long_bar : check (leb len 64) bar_too_long ≡ Err x → Refused bytes id x
      long_bar e =
          let (t, is) = check_refuses (leb len 64) bar_too_long e in
          subst (Refused bytes id) is (too_long opens (bar_gives bytes opens id len (known_some there k)) (leb-false len 64 t))

      no_list : check (leb len 64) bar_too_long ≡ Ok tt → decode_all s.documents s.entries ≡ Err x → Refused bytes id x
      no_list t d =
          decoding opens (bar_gives bytes opens id len (known_some there k)) (leb-true len 64 (last_gives (leb len 64) bar_too_long t))
          (first_gives s.documents s.entries d)

  gives : bar_sheet bytes id ≡ Err x → Refused bytes id x
  unfolding bar_sheet
  gives e = ⊎_elim opening (λ (s, o, f).
      ⊎_elim (no_bar o) (λ (len, k, g).
      ⊎_elim (long_bar o k) (λ (u, t, h).
      ⊎_elim (no_list o k t) (λ (ts, d, i). ok_refuse i)
      (refused_by (decode_all s.documents s.entries) _ h))
      (refused_by (check (leb len 64) bar_too_long) _ g))
      (refused_by (known_bar (length_of s.documents id)) _ f))
      (refused_by (open_segment bytes) _ e)

from : (bytes : List ℕ) (id : ℕ) {x : Refusal} → Refused bytes id x → bar_sheet bytes id ≡ Err x
unfolding bar_sheet
from bytes id (opening o) = rw o
from bytes id (unknown o k) = rw (o, none_from bytes o id k)
from bytes id (too_long {len = len} o k far) = rw (o, bar_from bytes o id len k, lt-leb len 64 far)
from bytes id (decoding {s = s} {len = len} o k short d) =
    rw (o, bar_from bytes o id len k, le-leb len 64 short, first_from s.documents s.entries d)

pub refuses_exactly : RefusesExactly
refuses_exactly bytes id x = (gives bytes id x, from bytes id)

-- ---- 16 and 17

list_early : (s : Segment) {x : Refusal} → FirstRefused s.documents s.entries x → (numbers x).kind < 11
list_early s {x} d = (decoding_early s.documents s.entries).kind x (first_from s.documents s.entries d)

module _ (bytes : List ℕ) (id : ℕ) where
  -- no other test refuses with that kind
  sixteen : {x : Refusal} → Refused bytes id x → (numbers x).kind ≡ 16
      → (s : Segment) × (open_segment bytes ≡ Ok s) × ((len : ℕ) → HasBar s id len → ⊥)
  sixteen (opening {x = x} o) e = absurd (omega (arith, (opening_early bytes).kind x o))
  sixteen (unknown {s = s} o k) e = (s, o, k)
  sixteen (too_long o k far) e = absurd (omega arith)
  sixteen (decoding {s = s} o k short d) e = absurd (omega (arith, list_early s d))

  seventeen : {x : Refusal} → Refused bytes id x → (numbers x).kind ≡ 17
      → (s : Segment) × (len : ℕ) × (open_segment bytes ≡ Ok s) × HasBar s id len × (64 < len)
  seventeen (opening {x = x} o) e = absurd (omega (arith, (opening_early bytes).kind x o))
  seventeen (unknown o k) e = absurd (omega arith)
  seventeen (too_long {s = s} {len = len} o k far) e = (s, len, o, k, far)
  seventeen (decoding {s = s} o k short d) e = absurd (omega (arith, list_early s d))

  others : {x : Refusal} → Refused bytes id x → (x ≡ unknown_bar) ⊎ (x ≡ bar_too_long) ⊎ ((numbers x).kind ≤ 10)
  others (opening {x = x} o) = inr (inr (omega (arith, (opening_early bytes).kind x o)))
  others (unknown o k) = inl refl
  others (too_long o k far) = inr (inl refl)
  others (decoding {s = s} o k short d) = inr (inr (omega (arith, list_early s d)))

pub other_kinds : OtherKinds
other_kinds bytes id x e = others bytes id (gives bytes id x e)

pub unknown_exactly : UnknownExactly
unknown_exactly bytes id = (
  λ e. sixteen bytes id (gives bytes id unknown_bar e) refl,
  λ (s, o, k). from bytes id (unknown o k),
)

pub too_long_exactly : TooLongExactly
too_long_exactly bytes id = (
  λ e. seventeen bytes id (gives bytes id bar_too_long e) refl,
  λ (s, len, o, k, far). from bytes id (too_long o k far),
)

-- ---- 13

module _ (bytes : List ℕ) (id room : ℕ) where
  abbrev Short : Refusal → Type 0
  Short x = (text : List ℕ) × (bar_sheet bytes id ≡ Ok text) × (room < length text) × (x ≡ no_room 1 (length text))

  into_gives : (x : Refusal) → sheet_into bytes id room ≡ Err x → Refused bytes id x ⊎ Short x
  unfolding sheet_into
  into_gives x e = ⊎_elim
      (λ r. inl (gives bytes id x r))
      (λ (text, s, f).
      ⊎_elim
      (λ r. let (t, is) = check_refuses (leb (length text) room) (no_room 1 (length text)) r in
      inr (text, s, leb-false (length text) room t, sym is))
      (λ (u, t, g). ok_refuse g)
      (refused_by (roomy 1 (length text) room) _ f))
      (refused_by (bar_sheet bytes id) _ e)

  into_from : (x : Refusal) → Refused bytes id x ⊎ Short x → sheet_into bytes id room ≡ Err x
  unfolding sheet_into
  into_from x (inl r) = rw (from bytes id r)
  into_from x (inr (text, s, h, e)) = rw (s, lt-leb (length text) room h, e)

  fits_gives : (text : List ℕ) → sheet_into bytes id room ≡ Ok text → (bar_sheet bytes id ≡ Ok text) × (length text ≤ room)
  unfolding sheet_into
  fits_gives text e =
      let (all, s, f) = bind_gives (bar_sheet bytes id) _ e in
      let (t, g) = check_gives (leb (length all) room) (no_room 1 (length all)) _ f in
      let same = ok_same g in
      (s ∙ ap Ok same, subst (λ (l : List ℕ). length l ≤ room) same (leb-true (length all) room t))

  fits_from : (text : List ℕ) → (bar_sheet bytes id ≡ Ok text) × (length text ≤ room) → sheet_into bytes id room ≡ Ok text
  unfolding sheet_into
  fits_from text (s, h) = rw (s, le-leb (length text) room h)

pub no_room_last : NoRoomLast
no_room_last bytes id room x = (into_gives bytes id room x, into_from bytes id room x)

pub room_enough : RoomEnough
room_enough bytes id room text = (fits_gives bytes id room text, fits_from bytes id room text)
