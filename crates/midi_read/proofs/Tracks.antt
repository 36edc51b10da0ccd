-- A track in words, and as it is read: the same.
-- Assumes nothing.
use Rattle.std.specs.Prelude.{Ok}
use mathlib.Core.Path.{◌≡◌, refl, sym, ap, ◌∙◌}
use mathlib.Core.Bool.{Bool, true, false, cond}
use mathlib.Core.List.{List, [], ◌∷◌, ◌++◌}
use mathlib.Core.Logic.{inl, inr}
use Prim.Native.Nat.{ℕ, zero, suc, ◌+◌, ◌≤◌}
use native.Mathlib.Omega.{arith}
use lib.Dec.{leb, eqb}
use lib.ListN.{length, drop, get_or, length-append, length-drop}
use borrow.Author.Tests.{eqb-true, le-leb, eq-eqb}
use Rattle.common.specs.Elements.{◌∈◌}
use Rattle.common.proofs.Loops.{drop_end}
use Rattle.segment.specs.Refusals.{midi_file, bar_too_far}
use Rattle.segment.specs.Results.{Answer, ◌>>=◌}
use Rattle.segment.proofs.Binds.{bind_gives, ok_same, refuse_ok}
use Rattle.segment.proofs.Accepted.{check_gives}
use Rattle.midi_read.specs.declared.track.Reader.{Reader}
use Rattle.midi_read.specs.declared.track.Hit.{Hit}
use Rattle.midi_read.specs.Files.{Grid, reader, read_event, bar_of, after, hits_from, hits, first_event}
use Rattle.midi_read.specs.declared.track.Step.{Step}
use Rattle.midi_read.specs.declared.track.Step.TheVariants.{Sounds, Silent, Ends}
use Rattle.midi_read.specs.Tracks.{IsNumber, Said, channel, skipped_over, Timed, Says, running_after, Events, bytes_of, note_on}
use Rattle.midi_read.specs.Tracks.{with_hit, hits_in, PlaysSo}
use Rattle.midi_read.specs.Claims.{TracksExactly}
use Rattle.midi_read.proofs.Fine.{read_so}
use Rattle.midi_read.proofs.Walks.{unrolled}
use Rattle.midi_read.proofs.Digits.{behind}
use Rattle.midi_read.proofs.Said.{Runs, OneEvent, EventSaid, event_said}
use Rattle.midi_read.proofs.Heard.{event_of, event_read, end_read}

abbrev closing : List ℕ
closing = 0xFF ∷ 0x2F ∷ 0x00 ∷ []

-- ---- what was read, in words

record TrackFrom (file : List ℕ) (from : Reader) (hs : List Hit) : Type 0 where
  events : List Timed
  each : Events from.running events
  time : List ℕ
  delta : ℕ
  timed : IsNumber time delta
  rest : drop from.at file ≡ bytes_of events (time ++ closing)
  hits_are : hs ≡ hits_in from.tick events

pub runs_on : (running : ℕ) (said : Said) (bytes : List ℕ) → Says running said bytes → Runs (running_after said)
runs_on running (channel status values) bytes c = inr (c.least, c.most)
runs_on running skipped_over bytes s = inl refl

one_more : (file : List ℕ) (from next : Reader) (hit ks : List Hit) → OneEvent file from next hit → TrackFrom file next ks
    → TrackFrom file from (hit ++ ks)
one_more file from next hit ks o t = record {
  events = o.event ∷ t.events;
  each = (o.timed, o.says, rw o.running_is at t.each);
  time = t.time;
  delta = t.delta;
  timed = t.timed;
  rest = o.rest ∙ ap (λ (l : List ℕ). o.event.time ++ (o.event.bytes ++ l)) t.rest;
  hits_are =
      sym (o.hits_are ks)
      ∙ ap (λ (l : List Hit). with_hit (from.tick + o.event.delta) o.event.said l)
      (t.hits_are ∙ ap (λ k. hits_in k t.events) o.tick_is);
}

from_said : (n : ℕ) (g : Grid) (file : List ℕ) (from : Reader) (hs : List Hit) → Runs from.running → hits_from n g file from ≡ Ok hs
    → TrackFrom file from hs
unfolding hits_from
from_said zero g file from hs runs f = refuse_ok f
from_said (suc n) g file from hs runs f =
    let (e, read, k) = bind_gives (read_event file from) _ f in
    step e (event_said file from e runs read) k (from_said n g file)
  where
    on : (next : Reader) (hit : List Hit) → OneEvent file from next hit → Runs next.running
    on next hit o = rw o.running_is (runs_on from.running o.event.said o.event.bytes o.says)

    step : (e : Step) → EventSaid file from e → after g file (hits_from n g file) e ≡ Ok hs
        → ((next : Reader) (ks : List Hit) → Runs next.running → hits_from n g file next ≡ Ok ks → TrackFrom file next ks)
        → TrackFrom file from hs
    step (Sounds h next) o k ih =
        let (near, j) = check_gives (leb (bar_of g h) 65535) bar_too_far _ k in
        let (ks, more, same) = bind_gives (hits_from n g file next) _ j in
        let is : h ∷ ks ≡ hs = ok_same same in
        rw (sym is) (one_more file from next (h ∷ []) ks o (ih next ks (on next (h ∷ []) o) more))
    step (Silent next) o k ih = one_more file from next [] hs o (ih next hs (on next [] o) k)
    step (Ends past) o k ih =
        let (t, j) = check_gives (eqb past (length file)) (midi_file past) _ k in
        let is : [] ≡ hs = ok_same j in
        let whole : past ≡ length file = eqb-true past (length file) t in
        record {
          events = [];
          each = tt;
          time = o.time;
          delta = o.delta;
          timed = o.timed;
          rest = o.rest ∙ ap (λ (l : List ℕ). o.time ++ (0xFF ∷ 0x2F ∷ 0x00 ∷ l)) (drop_end file past (omega arith));
          hits_are = sym is;
        }

-- ---- what is said in words, read

on_event : (g : Grid) (file : List ℕ) (later : Reader → Answer (List Hit)) (tick : ℕ) (said : Said) (next : Reader) (ks : List Hit)
    → later next ≡ Ok ks → ((h : Hit) → h ∈ with_hit tick said ks → bar_of g h ≤ 65535)
    → after g file later (event_of tick said next) ≡ Ok (with_hit tick said ks)
on_event g file later tick (channel status values) next ks e near = step (note_on status (get_or values 1 0)) near
  where
    h : Hit
    h = record { tick = tick; note = get_or values 0 0; velocity = get_or values 1 0 }

    step : (b : Bool) → ((k : Hit) → k ∈ cond b (h ∷ ks) ks → bar_of g k ≤ 65535)
        → after g file later (cond b (Sounds h next) (Silent next)) ≡ Ok (cond b (h ∷ ks) ks)
    step true near = rw (le-leb (bar_of g h) 65535 (near h (inl refl)), e)
    step false near = e
on_event g file later tick skipped_over next ks e near = e

among : (tick : ℕ) (said : Said) (ks : List Hit) (h : Hit) → h ∈ ks → h ∈ with_hit tick said ks
among tick (channel status values) ks h m = step (note_on status (get_or values 1 0))
  where
    step : (b : Bool) → h ∈ cond b (record { tick = tick; note = get_or values 0 0; velocity = get_or values 1 0 } ∷ ks) ks
    step true = inr m
    step false = m
among tick skipped_over ks h m = m

from_read : (events : List Timed) (g : Grid) (file : List ℕ) (from : Reader) (time : List ℕ) (delta : ℕ) → Events from.running events
    → IsNumber time delta → drop from.at file ≡ bytes_of events (time ++ closing)
    → ((h : Hit) → h ∈ hits_in from.tick events → bar_of g h ≤ 65535)
    → hits_from (length file) g file from ≡ Ok (hits_in from.tick events)
from_read [] g file from time delta each is e near =
    let long : length (drop from.at file) ≡ length (time ++ closing) = ap length e in
    let whole : from.at + length time + 1 + 2 ≡ length file =
    omega (arith, long, length-drop from.at file, length-append time closing) in
    unrolled g file from ∙ rw (end_read file from time delta [] is e, eq-eqb (from.at + length time + 1 + 2) (length file) whole)
from_read (t ∷ ts) g file from time delta (timed, says, each) is e near =
    let tick = from.tick + t.delta in
    let next : Reader = reader (from.at + length t.time + length t.bytes) (running_after t.said) tick in
    let past : drop next.at file ≡ bytes_of ts (time ++ closing) =
    behind file (from.at + length t.time) t.bytes (bytes_of ts (time ++ closing))
    (behind file from.at t.time (t.bytes ++ bytes_of ts (time ++ closing)) e) in
    let later = from_read ts g file next time delta each is past (λ h m. near h (among tick t.said (hits_in tick ts) h m)) in
    unrolled g file from
    ∙ ap (λ (r : Answer Step). r >>= after g file (hits_from (length file) g file))
    (event_read file from t (bytes_of ts (time ++ closing)) timed says e)
    ∙ on_event g file (hits_from (length file) g file) tick t.said next (hits_in tick ts) later near

pub tracks_exactly : TracksExactly
unfolding hits
tracks_exactly g file hs = (to, from)
  where
    to : hits_from (length file) g file first_event ≡ Ok hs → PlaysSo g file hs
    to f =
        let t = from_said (length file) g file first_event hs (inl refl) f in
        record {
          events = t.events;
          track = record { each = t.each; time = t.time; delta = t.delta; timed = t.timed; bytes_are = t.rest };
          hits_are = t.hits_are;
          near = (read_so g file hs f).near;
        }

    from : PlaysSo g file hs → hits_from (length file) g file first_event ≡ Ok hs
    from p =
        let t = p.track in
        from_read p.events g file first_event t.time t.delta t.each t.timed t.bytes_are
        (λ h m. p.near h (rw p.hits_are m))
        ∙ ap Ok (sym p.hits_are)
