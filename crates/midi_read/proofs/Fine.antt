-- What an event that was read says: where it ends, at which tick, and that a hit's bytes are in their range. So of all hits of a file.
-- Assumes nothing.
use Rattle.std.specs.Prelude.{Err, None, Ok, Option, Some}
use mathlib.Core.Path.{◌≡◌, refl, sym, ap, ◌∙◌}
use mathlib.Core.Bool.{Bool, true, false, cond}
use mathlib.Core.List.{List, [], ◌∷◌}
use Prim.Native.Nat.{ℕ, zero, suc, ◌+◌, ◌/◌, ◌≤◌, ◌<◌}
use native.Mathlib.Omega.{arith}
use lib.Dec.{ltb, leb, eqb}
use lib.ListN.{length, get_or}
use borrow.Author.Tests.{ltb-true, leb-true}
use Rattle.common.proofs.Loops.{and_right}
use Rattle.common.specs.Elements.{◌∈◌}
use Rattle.common.proofs.Elements.{each}
use Rattle.segment.specs.Results.{◌>>=◌, check}
use Rattle.segment.proofs.Binds.{bind_gives, ok_same, refuse_ok}
use Rattle.segment.proofs.Accepted.{check_gives}
use Rattle.midi_read.specs.declared.track.Reader.{Reader}
use Rattle.midi_read.specs.declared.track.Hit.{Hit}
use Rattle.segment.specs.Refusals.{midi_file, bar_too_far}
use Rattle.midi_read.specs.declared.track.Number.{Number}
use Rattle.midi_read.specs.Files.{Grid, number_from, found, number, byte, low_byte, reader}
use Rattle.midi_read.specs.declared.track.Step.{Step}
use Rattle.midi_read.specs.declared.track.Step.TheVariants.{Sounds, Silent, Ends}
use Rattle.midi_read.specs.Files.{one_data_byte, is_hit, exclusive, two_data_bytes, message, skipped, meta, by_status, read_event}
use Rattle.midi_read.specs.Files.{bar_of, after, hits_from, hits, first_event}
use Rattle.midi_read.specs.Claims.{Audible, Moved, EventFine, EventsFine, NeverFall, ReadSo}
use Rattle.midi_read.proofs.Numbers.{Sized, sized}

-- ---- bytes and numbers that were read

byte_gives : (start : ℕ) (file : List ℕ) (at : ℕ) {b : ℕ} → byte start file at ≡ Ok b → (at < length file) × (get_or file at 0 ≡ b)
byte_gives start file at e =
    let (t, f) = check_gives (ltb at (length file)) (midi_file start) _ e in
    (ltb-true at (length file) t, ok_same f)

low_gives : (start : ℕ) (file : List ℕ) (at : ℕ) {b : ℕ} → low_byte start file at ≡ Ok b → (at < length file) × (b < 128)
low_gives start file at {b} e =
    let (a, f, k) = bind_gives (byte start file at) _ e in
    let (t, s) = check_gives (ltb a 128) (midi_file start) _ k in
    let is : a ≡ b = ok_same s in
    ((byte_gives start file at f).0, omega (arith, ltb-true a 128 t))

number_gives : (start : ℕ) (o : Option Number) {n : Number} → found start o ≡ Ok n → o ≡ Some n
number_gives start None e = refuse_ok e
number_gives start (Some m) e = ap Some (ok_same e)

-- ---- what an event says, from the place and tick behind its delta time

record PlacedAt (file : List ℕ) (at tick : ℕ) (next : Reader) : Type 0 where
  beyond : at < next.at
  inside : next.at ≤ length file
  same : next.tick ≡ tick

abbrev Placed : (file : List ℕ) (at tick : ℕ) → Step → Type 0
Placed file at tick (Sounds h next) = PlacedAt file at tick next × (h.tick ≡ tick) × Audible h
Placed file at tick (Silent next) = PlacedAt file at tick next
Placed file at tick (Ends past) = (at < past) × (past ≤ length file)

module _ (start : ℕ) (file : List ℕ) where
  two_fine : (status at tick x y : ℕ) (e : Step) → at + 1 < length file → x < 128 → y < 128 → two_data_bytes status at tick x y ≡ e
      → Placed file at tick e
  two_fine status at tick x y e i l k is = rw (sym is) (step (is_hit status y) refl)
    where
      next : PlacedAt file at tick (reader (at + 2) status tick)
      next = record { beyond = omega arith; inside = omega arith; same = refl }

      step : (b : Bool) → is_hit status y ≡ b
          → let after = reader (at + 2) status tick in
          Placed file at tick (cond b (Sounds (record { tick = tick; note = x; velocity = y }) after) (Silent after))
      step true t =
          let Some = ltb-true 0 y (and_right (eqb (status / 16) 9) (ltb 0 y) t) in
          (next, refl, record { note = l; some_velocity = omega (arith, Some); velocity = omega arith })
      step false t = next

  message_fine : (status at tick : ℕ) (e : Step) → message start file status at tick ≡ Ok e → Placed file at tick e
  unfolding message
  message_fine status at tick e f =
      let (x, low, g) = bind_gives (low_byte start file at) _ f in
      step (one_data_byte status) x (low_gives start file at low).0 (low_gives start file at low).1 g
    where
      step : (b : Bool) (x : ℕ) → at < length file → x < 128
          → cond b (Ok (Silent (reader (at + 1) status tick)))
          (low_byte start file (at + 1) >>= (λ y. Ok (two_data_bytes status at tick x y))) ≡ Ok e
          → Placed file at tick e
      step true x i l g = let is : Silent (reader (at + 1) status tick) ≡ e = ok_same g in
          rw (sym is) (record { beyond = omega arith; inside = omega arith; same = refl })
      step false x i l g =
          let (y, low, k) = bind_gives (low_byte start file (at + 1)) _ g in
          two_fine status at tick x y e (low_gives start file (at + 1) low).0 l (low_gives start file (at + 1) low).1 (ok_same k)

  skipped_fine : (at tick : ℕ) (e : Step) → skipped start file at tick ≡ Ok e → Placed file at tick e
  unfolding skipped
  skipped_fine at tick e f =
      let (n, read, g) = bind_gives (number start file at) _ f in
      let s = sized 4 0 file at n (number_gives start (number_from 4 0 file at) read) in
      let (t, k) = check_gives (leb (n.next + n.value) (length file)) (midi_file start) _ g in
      let is : Silent (reader (n.next + n.value) 0 tick) ≡ e = ok_same k in
      rw (sym is) (record { beyond = omega (arith, s.after); inside = leb-true _ _ t; same = refl })

  -- a place further back serves as well
  back : (at at' tick : ℕ) (e : Step) → at' ≤ at → Placed file at tick e → Placed file at' tick e
  back at at' tick (Sounds h next) l (m, t, a) = (record { beyond = omega (arith, m.beyond); inside = m.inside; same = m.same }, t, a)
  back at at' tick (Silent next) l m = record { beyond = omega (arith, m.beyond); inside = m.inside; same = m.same }
  back at at' tick (Ends past) l (b, i) = (omega arith, i)

  meta_fine : (at tick : ℕ) (e : Step) → meta start file at tick ≡ Ok e → Placed file at tick e
  unfolding meta
  meta_fine at tick e f =
      let (x, low, g) = bind_gives (low_byte start file at) _ f in
      step (eqb x 0x2F) g
    where
      step : (b : Bool)
          → cond b (byte start file (at + 1) >>= (λ z. check (eqb z 0) (midi_file start) >>= (λ _. Ok (Ends (at + 2)))))
          (skipped start file (at + 1) tick) ≡ Ok e
          → Placed file at tick e
      step true g =
          let (z, read, k) = bind_gives (byte start file (at + 1)) _ g in
          let (t, j) = check_gives (eqb z 0) (midi_file start) _ k in
          let is : Ends (at + 2) ≡ e = ok_same j in
          rw (sym is) (omega arith, omega (arith, (byte_gives start file (at + 1) read).0))
      step false g = back (at + 1) at tick e (omega arith) (skipped_fine (at + 1) tick e g)

  status_fine : (running at tick b : ℕ) (e : Step) → by_status start file running at tick b ≡ Ok e → Placed file at tick e
  unfolding by_status
  status_fine running at tick b e f = first (ltb b 0x80) (ltb b 0xF0) (eqb b 0xFF) (exclusive b) (eqb running 0) f
    where
      first : (d c m x r : Bool)
          → cond d (cond r (Err (midi_file start)) (message start file running at tick))
          (cond c (message start file b (at + 1) tick)
          (cond m (meta start file (at + 1) tick)
          (cond x (skipped start file (at + 1) tick) (Err (midi_file start))))) ≡ Ok e
          → Placed file at tick e
      first true c m x true f = refuse_ok f
      first true c m x false f = message_fine running at tick e f
      first false true m x r f = back (at + 1) at tick e (omega arith) (message_fine b (at + 1) tick e f)
      first false false true x r f = back (at + 1) at tick e (omega arith) (meta_fine (at + 1) tick e f)
      first false false false true r f = back (at + 1) at tick e (omega arith) (skipped_fine (at + 1) tick e f)
      first false false false false r f = refuse_ok f

moved : (file : List ℕ) (from next : Reader) (n : Number) → Sized file from.at 0 4 n
    → PlacedAt file n.next (from.tick + n.value) next → Moved file from next
moved file from next n s m = record {
  on = omega (arith, s.after, m.beyond);
  inside = m.inside;
  never_falls = omega (arith, m.same);
  rises = omega (arith, m.same, s.most);
}

pub events_fine : EventsFine
unfolding read_event
events_fine file from e f =
    let (n, read, g) = bind_gives (number from.at file from.at) _ f in
    let (b, here, k) = bind_gives (byte from.at file n.next) _ g in
    step e n (sized 4 0 file from.at n (number_gives from.at (number_from 4 0 file from.at) read))
    (status_fine from.at file from.running n.next (from.tick + n.value) b e k)
  where
    step : (e : Step) (n : Number) → Sized file from.at 0 4 n → Placed file n.next (from.tick + n.value) e → EventFine file from e
    step (Sounds h next) n s (m, t, a) = (moved file from next n s m, t ∙ sym m.same, a)
    step (Silent next) n s m = moved file from next n s m
    step (Ends past) n s (b, i) = (omega (arith, s.after), i)

-- ---- the hits

record SoFar (g : Grid) (tick n : ℕ) (hs : List Hit) : Type 0 where
  few : length hs ≤ n
  audible : (h : Hit) → h ∈ hs → Audible h
  near : (h : Hit) → h ∈ hs → bar_of g h ≤ 65535
  in_order : NeverFall tick hs

never_fall_from : (a b : ℕ) (hs : List Hit) → a ≤ b → NeverFall b hs → NeverFall a hs
never_fall_from a b [] l o = tt
never_fall_from a b (h ∷ hs) l (u, o) = (omega arith, o)

from_fine : (n : ℕ) (g : Grid) (file : List ℕ) (from : Reader) (hs : List Hit) → hits_from n g file from ≡ Ok hs
    → SoFar g from.tick n hs
unfolding hits_from
from_fine zero g file from hs f = refuse_ok f
from_fine (suc n) g file from hs f =
    let (e, read, k) = bind_gives (read_event file from) _ f in
    step e (events_fine file from e read) k (from_fine n g file)
  where
    step : (e : Step) → EventFine file from e → after g file (hits_from n g file) e ≡ Ok hs
        → ((next : Reader) (ks : List Hit) → hits_from n g file next ≡ Ok ks → SoFar g next.tick n ks)
        → SoFar g from.tick (suc n) hs
    step (Sounds h next) (m, t, a) k ih =
        let (near, j) = check_gives (leb (bar_of g h) 65535) bar_too_far _ k in
        let (ks, more, same) = bind_gives (hits_from n g file next) _ j in
        let is : h ∷ ks ≡ hs = ok_same same in
        let s = ih next ks more in
        rw (sym is)
        (record {
          few = omega (arith, s.few);
          audible = each Audible h ks a s.audible;
          near = each (λ k. bar_of g k ≤ 65535) h ks (leb-true _ _ near) s.near;
          in_order = (omega (arith, m.never_falls, t), never_fall_from h.tick next.tick ks (omega (arith, t)) s.in_order);
        })
    step (Silent next) m k ih =
        let s = ih next hs k in
        record {
          few = omega (arith, s.few);
          audible = s.audible;
          near = s.near;
          in_order = never_fall_from from.tick next.tick hs m.never_falls s.in_order;
        }
    step (Ends past) m k ih =
        let (t, j) = check_gives (eqb past (length file)) (midi_file past) _ k in
        let is : [] ≡ hs = ok_same j in
        rw (sym is) (record { few = omega arith; audible = λ h m. absurd m; near = λ h m. absurd m; in_order = tt })

pub read_so : ReadSo
unfolding hits
read_so g file hs f =
    let s = from_fine (length file) g file first_event hs f in
    record { few = s.few; audible = s.audible; near = s.near; in_order = s.in_order }
