-- The offset of a refusal, in words: where no event stands, or a byte behind the end of the track.
-- Assumes nothing.
use Rattle.std.specs.Prelude.{Err, None, Ok, Option, Some}
use mathlib.Core.Path.{◌≡◌, refl, sym, ap, ◌∙◌}
use mathlib.Core.Bool.{Bool, true, false, cond}
use mathlib.Core.List.{List, [], ◌∷◌, ◌++◌}
use mathlib.Core.Logic.{◌⊎◌, inl, inr}
use Prim.Native.Nat.{ℕ, zero, suc, ◌+◌, ◌≤◌, ◌<◌}
use native.Mathlib.Omega.{arith}
use lib.Dec.{ltb, leb, eqb}
use lib.ListN.{length, drop, get_or}
use borrow.Author.Tests.{eqb-false}
use Rattle.common.proofs.Loops.{lt_or_ge}
use Rattle.segment.specs.declared.refusal.Refusal.{Refusal}
use Rattle.segment.specs.Refusals.{numbers, midi_file, bar_too_far}
use Rattle.segment.specs.Results.{Answer, ◌>>=◌, check}
use Rattle.midi_read.specs.declared.track.Reader.{Reader}
use Rattle.midi_read.specs.declared.track.Hit.{Hit}
use Rattle.midi_read.specs.declared.track.Number.{Number}
use Rattle.midi_read.specs.Files.{Grid, number_from, found, number, byte, low_byte, reader}
use Rattle.midi_read.specs.declared.track.Step.{Step}
use Rattle.midi_read.specs.declared.track.Step.TheVariants.{Sounds, Silent, Ends}
use Rattle.midi_read.specs.Files.{one_data_byte, exclusive, message, skipped, meta, by_status, read_event, bar_of, after, hits_from}
use Rattle.midi_read.specs.Files.{hits, first_event}
use Rattle.midi_read.specs.Claims.{EventFine, OffsetRight}
use Rattle.midi_read.specs.Tracks.{IsNumber, Timed, Says, running_behind, Events, bytes_of, NoEventAt, ByteBehindEnd}
use Rattle.midi_read.proofs.Fine.{events_fine}
use Rattle.midi_read.proofs.Said.{Runs, OneEvent, EventSaid, event_said}
use Rattle.midi_read.proofs.Heard.{event_read, end_read}
use Rattle.midi_read.proofs.Tracks.{runs_on}

-- ---- every refusal of an event has the offset of its delta time

module _ {A : Type 0} (x : Refusal) where
  -- refused with nothing else
  pub record Only (r : Answer A) : Type 0 where
    pub so : (y : Refusal) → r ≡ Err y → y ≡ x

only_refuse : {A : Type 0} (x : Refusal) → Only {A = A} x (Err x)
only_refuse x = record { so = λ y e. cc }

only_ok : {A : Type 0} (x : Refusal) (a : A) → Only x (Ok a)
only_ok x a = record { so = λ y e. let z : ◌≡◌ {A = ℕ} 0 1 = cc in absurd (omega arith) }

only_then : {A B : Type 0} (x : Refusal) (r : Answer A) (f : A → Answer B) → Only x r → ((a : A) → Only x (f a)) → Only x (r >>= f)
only_then x (Ok a) f o k = k a
only_then x (Err y) f o k = record { so = λ z e. let is : y ≡ z = cc in sym is ∙ o.so y refl }

-- a test, then the rest
only_tested : {A : Type 0} (x : Refusal) (t : Bool) (f : Unit {0} → Answer A) → Only x (f tt) → Only x (check t x >>= f)
only_tested x true f o = o
only_tested x false f o = only_refuse x

only_cond : {A : Type 0} (x : Refusal) (t : Bool) (p q : Answer A) → Only x p → Only x q → Only x (cond t p q)
only_cond x true p q a b = a
only_cond x false p q a b = b

only_found : (start : ℕ) (o : Option Number) → Only (midi_file start) (found start o)
only_found start None = only_refuse (midi_file start)
only_found start (Some n) = only_ok (midi_file start) n

module _ (start : ℕ) (file : List ℕ) where
  only_byte : (at : ℕ) → Only (midi_file start) (byte start file at)
  only_byte at = only_tested (midi_file start) (ltb at (length file)) (λ _. Ok (get_or file at 0)) (only_ok _ _)

  only_low : (at : ℕ) → Only (midi_file start) (low_byte start file at)
  only_low at = only_then _ (byte start file at) _ (only_byte at) (λ b. only_tested (midi_file start) (ltb b 128) (λ _. Ok b) (only_ok _ _))

  only_message : (status at tick : ℕ) → Only (midi_file start) (message start file status at tick)
  unfolding message
  only_message status at tick =
      only_then _ (low_byte start file at) _ (only_low at)
      (λ x. only_cond _ (one_data_byte status) _ _ (only_ok _ _)
      (only_then _ (low_byte start file (at + 1)) _ (only_low (at + 1)) (λ y. only_ok _ _)))

  only_skipped : (at tick : ℕ) → Only (midi_file start) (skipped start file at tick)
  unfolding skipped
  only_skipped at tick =
      only_then _ (number start file at) _ (only_found start (number_from 4 0 file at))
      (λ n. only_tested (midi_file start) (leb (n.next + n.value) (length file))
      (λ _. Ok (Silent (reader (n.next + n.value) 0 tick))) (only_ok _ _))

  only_meta : (at tick : ℕ) → Only (midi_file start) (meta start file at tick)
  unfolding meta
  only_meta at tick =
      only_then _ (low_byte start file at) _ (only_low at)
      (λ x. only_cond _ (eqb x 0x2F) _ _
      (only_then _ (byte start file (at + 1)) _ (only_byte (at + 1))
      (λ b. only_tested (midi_file start) (eqb b 0) (λ _. Ok (Ends (at + 2))) (only_ok _ _)))
      (only_skipped (at + 1) tick))

  only_status : (running at tick b : ℕ) → Only (midi_file start) (by_status start file running at tick b)
  unfolding by_status
  only_status running at tick b =
      only_cond _ (ltb b 0x80) _ _ (only_cond _ (eqb running 0) _ _ (only_refuse _) (only_message running at tick))
      (only_cond _ (ltb b 0xF0) _ _ (only_message b (at + 1) tick)
      (only_cond _ (eqb b 0xFF) _ _ (only_meta (at + 1) tick)
      (only_cond _ (exclusive b) _ _ (only_skipped (at + 1) tick) (only_refuse _))))

only_event : (file : List ℕ) (from : Reader) → Only (midi_file from.at) (read_event file from)
unfolding read_event
only_event file from =
    only_then _ (number from.at file from.at) _ (only_found from.at (number_from 4 0 file from.at))
    (λ n. only_then _ (byte from.at file n.next) _ (only_byte from.at file n.next)
    (λ b. only_status from.at file from.running n.next (from.tick + n.value) b))

-- ---- from a reader on

record NoEventFrom (file : List ℕ) (from : Reader) (i : ℕ) : Type 0 where
  events : List Timed
  each : Events from.running events
  before : drop from.at file ≡ bytes_of events (drop i file)
  no_event : (e : Timed) (rest : List ℕ) → IsNumber e.time e.delta
      → Says (running_behind from.running events) e.said e.bytes → drop i file ≡ e.time ++ (e.bytes ++ rest) → ⊥
  no_end : (time rest : List ℕ) (delta : ℕ) → IsNumber time delta → drop i file ≡ time ++ (0xFF ∷ 0x2F ∷ 0x00 ∷ rest) → ⊥

record ByteFrom (file : List ℕ) (from : Reader) (i : ℕ) : Type 0 where
  events : List Timed
  each : Events from.running events
  time : List ℕ
  delta : ℕ
  timed : IsNumber time delta
  before : drop from.at file ≡ bytes_of events (time ++ (0xFF ∷ 0x2F ∷ 0x00 ∷ drop i file))
  a_byte : i < length file

abbrev Stopped : (file : List ℕ) (from : Reader) (i : ℕ) → Type 0
Stopped file from i = (i ≤ length file) × (NoEventFrom file from i ⊎ ByteFrom file from i)

no_ok : {A : Type 0} (r : Answer A) {x : Refusal} {a : A} → r ≡ Err x → r ≡ Ok a → ⊥
no_ok r e f = let z : ◌≡◌ {A = ℕ} 0 1 = cc in absurd (omega arith)

-- here, where no event is read
here_none : (file : List ℕ) (from : Reader) (x : Refusal) (i : ℕ) → read_event file from ≡ Err x → from.at ≡ i
    → NoEventFrom file from i
here_none file from x i e is = record {
  events = [];
  each = tt;
  before = ap (λ k. drop k file) is;
  no_event = λ t rest n s f. no_ok (read_event file from) e (event_read file from t rest n s (ap (λ k. drop k file) is ∙ f));
  no_end = λ time rest delta n f. no_ok (read_event file from) e (end_read file from time delta rest n (ap (λ k. drop k file) is ∙ f));
}

one_more : (file : List ℕ) (from next : Reader) (hit : List Hit) (i : ℕ) → OneEvent file from next hit → Stopped file next i
    → Stopped file from i
one_more file from next hit i o (l, inl s) = (
  l,
  inl (record {
    events = o.event ∷ s.events;
    each = (o.timed, o.says, rw o.running_is at s.each);
    before = o.rest ∙ ap (λ (l : List ℕ). o.event.time ++ (o.event.bytes ++ l)) s.before;
    no_event = λ t rest n says f. s.no_event t rest n (rw o.running_is says) f;
    no_end = s.no_end;
  }),
)
one_more file from next hit i o (l, inr s) = (
  l,
  inr (record {
    events = o.event ∷ s.events;
    each = (o.timed, o.says, rw o.running_is at s.each);
    time = s.time;
    delta = s.delta;
    timed = s.timed;
    before = o.rest ∙ ap (λ (l : List ℕ). o.event.time ++ (o.event.bytes ++ l)) s.before;
    a_byte = s.a_byte;
  }),
)

-- what stops a check, and what stops the rest
check_stops : {B : Type 0} (t : Bool) (x : Refusal) (f : Unit {0} → Answer B) {y : Refusal} → check t x >>= f ≡ Err y
    → ((t ≡ false) × (x ≡ y)) ⊎ ((t ≡ true) × (f tt ≡ Err y))
check_stops true x f e = inr (refl, e)
check_stops false x f e = inl (refl, cc)

rest_stops : {A B : Type 0} (r : Answer A) (f : A → B) {y : Refusal} → (r >>= (λ a. Ok (f a))) ≡ Err y → r ≡ Err y
rest_stops (Ok a) f e = let z : ◌≡◌ {A = ℕ} 0 1 = cc in absurd (omega arith)
rest_stops (Err x) f e = cc

not_far : (i : ℕ) → bar_too_far ≡ midi_file i → ⊥
not_far i e = let z : ◌≡◌ {A = ℕ} 15 14 = ap (λ (x : Refusal). (numbers x).kind) e in absurd (omega arith)

from_stops : (n : ℕ) (g : Grid) (file : List ℕ) (from : Reader) (i : ℕ) → Runs from.running → length file < n + from.at
    → from.at ≤ length file → hits_from n g file from ≡ Err (midi_file i) → Stopped file from i
unfolding hits_from
from_stops zero g file from i runs fuel inside f = absurd (omega arith)
from_stops (suc n) g file from i runs fuel inside f = turn (read_event file from) refl f (from_stops n g file)
  where
    on : (next : Reader) (hit : List Hit) → OneEvent file from next hit → Runs next.running
    on next hit o = rw o.running_is (runs_on from.running o.event.said o.event.bytes o.says)

    step : (e : Step) → EventSaid file from e → EventFine file from e → after g file (hits_from n g file) e ≡ Err (midi_file i)
        → ((next : Reader) (j : ℕ) → Runs next.running → length file < n + next.at → next.at ≤ length file
        → hits_from n g file next ≡ Err (midi_file j) → Stopped file next j)
        → Stopped file from i
    step (Sounds h next) o (m, t, u) k ih = cases (check_stops (leb (bar_of g h) 65535) bar_too_far _ k)
      where
        cases : ((leb (bar_of g h) 65535 ≡ false) × (bar_too_far ≡ midi_file i))
            ⊎ ((leb (bar_of g h) 65535 ≡ true) × ((hits_from n g file next >>= (λ more. Ok (h ∷ more))) ≡ Err (midi_file i)))
            → Stopped file from i
        cases (inl (_, e)) = absurd (not_far i e)
        cases (inr (_, e)) =
            one_more file from next (h ∷ []) i o
            (ih next i (on next (h ∷ []) o) (omega (arith, m.on)) m.inside (rest_stops (hits_from n g file next) (λ more. h ∷ more) e))
    step (Silent next) o m k ih = one_more file from next [] i o (ih next i (on next [] o) (omega (arith, m.on)) m.inside k)
    step (Ends past) o (b, l) k ih = cases (check_stops (eqb past (length file)) (midi_file past) _ k)
      where
        cases : ((eqb past (length file) ≡ false) × (midi_file past ≡ midi_file i))
            ⊎ ((eqb past (length file) ≡ true) × (◌≡◌ {A = Answer (List Hit)} (Ok []) (Err (midi_file i))))
            → Stopped file from i
        cases (inl (t, e)) =
            let is : past ≡ i = ap (λ (x : Refusal). (numbers x).index) e in
            let short : past < length file = less (lt_or_ge past (length file)) in (
              omega arith,
              inr (record {
                events = [];
                each = tt;
                time = o.time;
                delta = o.delta;
                timed = o.timed;
                before = o.rest ∙ ap (λ k. o.time ++ (0xFF ∷ 0x2F ∷ 0x00 ∷ drop k file)) is;
                a_byte = omega arith;
              }),
            )
          where
            less : (past < length file) ⊎ (length file ≤ past) → past < length file
            less (inl h) = h
            less (inr h) = absurd (eqb-false past (length file) t (omega arith))
        cases (inr (_, e)) = let z : ◌≡◌ {A = ℕ} 0 1 = cc in absurd (omega arith)

    turn : (r : Answer Step) → read_event file from ≡ r → (r >>= after g file (hits_from n g file)) ≡ Err (midi_file i)
        → ((next : Reader) (j : ℕ) → Runs next.running → length file < n + next.at → next.at ≤ length file
        → hits_from n g file next ≡ Err (midi_file j) → Stopped file next j)
        → Stopped file from i
    turn (Ok e) read k ih = step e (event_said file from e runs read) (events_fine file from e read) k ih
    turn (Err x) read k ih =
        let same : x ≡ midi_file i = cc in
        let here : x ≡ midi_file from.at = (only_event file from).so x read in
        let is : from.at ≡ i = ap (λ (y : Refusal). (numbers y).index) (sym here ∙ same) in
        (omega arith, inl (here_none file from x i read is))

pub offset_right : OffsetRight
unfolding hits
offset_right g file i long f = told (from_stops (length file) g file first_event i (inl refl) (omega arith) (omega arith) f)
  where
    told : Stopped file first_event i → (i ≤ length file) × (NoEventAt file i ⊎ ByteBehindEnd file i)
    told (l, inl s) = (
      l,
      inl (record { events = s.events; each = s.each; before = s.before; no_event = s.no_event; no_end = s.no_end }),
    )
    told (l, inr s) = (
      l,
      inr (record {
        events = s.events;
        each = s.each;
        time = s.time;
        delta = s.delta;
        timed = s.timed;
        before = s.before;
        a_byte = s.a_byte;
      }),
    )
