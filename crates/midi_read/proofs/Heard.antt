-- An event in words is read as what it says.
-- Assumes nothing.
use Rattle.std.specs.Prelude.{Ok}
use mathlib.Core.Path.{◌≡◌, refl, sym, ap, ◌∙◌}
use mathlib.Core.Bool.{true, false, cond}
use mathlib.Core.List.{List, [], ◌∷◌, ◌++◌, append_assoc}
use mathlib.Core.Logic.{◌⊎◌, inl, inr}
use Prim.Native.Nat.{ℕ, suc, ◌+◌, ◌≤◌, ◌<◌}
use native.Mathlib.Omega.{arith}
use lib.ListN.{length, drop, get_or, length-append, length-drop}
use borrow.Author.Tests.{lt-ltb, le-ltb, le-leb, ne_eqb}
use Rattle.common.specs.Elements.{◌∈◌}
use Rattle.midi_read.specs.declared.track.Reader.{Reader}
use Rattle.midi_read.specs.Files.{byte, low_byte, reader, one_data_byte, two_data_bytes, message, skipped, meta, by_status, read_event}
use Rattle.midi_read.specs.declared.track.Step.{Step}
use Rattle.midi_read.specs.declared.track.Step.TheVariants.{Sounds, Silent, Ends}
use Rattle.midi_read.specs.Tracks.{IsNumber, Said, channel, skipped_over, Timed, ChannelMessage, Says, running_after, note_on}
use Rattle.midi_read.proofs.Digits.{front, behind, number_read}
use Rattle.midi_read.proofs.Statuses.{one_of, two_of, note_on_is, silent_one}

-- the event that is read for what is said
abbrev pub event_of : (tick : ℕ) → Said → Reader → Step
event_of tick (channel status values) next =
    cond (note_on status (get_or values 1 0)) (Sounds (record { tick = tick; note = get_or values 0 0; velocity = get_or values 1 0 }) next)
    (Silent next)
event_of tick skipped_over next = Silent next

-- ---- bytes

low_read : (start : ℕ) (file : List ℕ) (at b : ℕ) (rest : List ℕ) → b ≤ 127 → drop at file ≡ b ∷ rest → low_byte start file at ≡ Ok b
low_read start file at b rest l e =
    let (i, is, _) = front file at b rest e in
    let k : get_or file at 0 < 128 = omega arith in
    rw (lt-ltb at (length file) i, lt-ltb (get_or file at 0) 128 k, is)

byte_read : (start : ℕ) (file : List ℕ) (at b : ℕ) (rest : List ℕ) → drop at file ≡ b ∷ rest → byte start file at ≡ Ok b
byte_read start file at b rest e =
    let (i, is, _) = front file at b rest e in
    rw (lt-ltb at (length file) i, is)

-- ---- channel messages

module _ (start : ℕ) (file : List ℕ) (status at tick : ℕ) where
  message_one : (x : ℕ) (rest : List ℕ) → one_data_byte status ≡ true → x ≤ 127 → drop at file ≡ x ∷ rest
      → message start file status at tick ≡ Ok (Silent (reader (at + 1) status tick))
  unfolding message
  message_one x rest t l e = rw (low_read start file at x rest l e, t)

  message_two : (x y : ℕ) (rest : List ℕ) → one_data_byte status ≡ false → x ≤ 127 → y ≤ 127 → drop at file ≡ x ∷ y ∷ rest
      → message start file status at tick ≡ Ok (two_data_bytes status at tick x y)
  unfolding message
  message_two x y rest t l k e =
      let (_, _, later) = front file at x (y ∷ rest) e in
      rw (low_read start file at x (y ∷ rest) l e, t, low_read start file (at + 1) y rest k later)

  message_read : (values rest : List ℕ)
      → ((0xC0 ≤ status) × (status ≤ 0xDF) × (length values ≡ 1)) ⊎ (((status < 0xC0) ⊎ (0xDF < status)) × (length values ≡ 2))
      → ((b : ℕ) → b ∈ values → b ≤ 127) → drop at file ≡ values ++ rest
      → message start file status at tick ≡ Ok (event_of tick (channel status values) (reader (at + length values) status tick))
  message_read [] rest (inl (a, b, c)) low e = absurd (omega arith)
  message_read [] rest (inr (a, c)) low e = absurd (omega arith)
  message_read (x ∷ []) rest (inl (a, b, c)) low e =
      message_one x rest (one_of status a b) (low x (inl refl)) e ∙ rw (silent_one status)
  message_read (x ∷ []) rest (inr (a, c)) low e = absurd (omega arith)
  message_read (x ∷ y ∷ []) rest (inl (a, b, c)) low e = absurd (omega arith)
  message_read (x ∷ y ∷ []) rest (inr (a, c)) low e =
      message_two x y rest (two_of status a) (low x (inl refl)) (low y (inr (inl refl))) e ∙ rw (note_on_is status y)
  message_read (x ∷ y ∷ z ∷ zs) rest (inl (a, b, c)) low e = absurd (omega arith)
  message_read (x ∷ y ∷ z ∷ zs) rest (inr (a, c)) low e = absurd (omega arith)

-- ---- skipped events

number_long : (bytes : List ℕ) (value : ℕ) → IsNumber bytes value → 1 ≤ length bytes
number_long bytes value is =
    let e : length bytes ≡ length (is.high ++ (is.last ∷ [])) = ap length is.bytes_are in
    omega (arith, length-append is.high (is.last ∷ []))

module _ (start : ℕ) (file : List ℕ) where
  skipped_read : (at tick : ℕ) (size body rest : List ℕ) → IsNumber size (length body) → drop at file ≡ size ++ (body ++ rest)
      → skipped start file at tick ≡ Ok (Silent (reader (at + length size + length body) 0 tick))
  unfolding skipped
  skipped_read at tick size body rest is e =
      let n = number_read file at size (length body) (body ++ rest) is e in
      let long : length (drop at file) ≡ length (size ++ (body ++ rest)) = ap length e in
      let inside : at + length size + length body ≤ length file =
      omega (
        arith,
        long,
        length-drop at file,
        length-append size (body ++ rest),
        length-append body rest,
        number_long size (length body) is,
      ) in
      rw (n, le-leb (at + length size + length body) (length file) inside)

  meta_other : (at tick type : ℕ) (rest : List ℕ) → type ≤ 127 → (type ≡ 0x2F → ⊥) → drop at file ≡ type ∷ rest
      → meta start file at tick ≡ skipped start file (at + 1) tick
  unfolding meta
  meta_other at tick type rest l k e = rw (low_read start file at type rest l e, ne_eqb type 0x2F k)

  meta_end : (at tick : ℕ) (rest : List ℕ) → drop at file ≡ 0x2F ∷ 0x00 ∷ rest → meta start file at tick ≡ Ok (Ends (at + 2))
  unfolding meta
  meta_end at tick rest e =
      let (_, _, later) = front file at 0x2F (0x00 ∷ rest) e in
      rw (low_read start file at 0x2F (0x00 ∷ rest) (omega arith) e, byte_read start file (at + 1) 0x00 rest later)

-- ---- by its first byte

module _ (start : ℕ) (file : List ℕ) (running at tick : ℕ) where
  by_data : (b : ℕ) → b ≤ 127 → 0x80 ≤ running → by_status start file running at tick b ≡ message start file running at tick
  unfolding by_status
  by_data b l r = let k : running ≡ 0 → ⊥ = λ e. absurd (omega arith) in rw (lt-ltb b 0x80 (omega arith), ne_eqb running 0 k)

  by_channel : (b : ℕ) → 0x80 ≤ b → b ≤ 0xEF → by_status start file running at tick b ≡ message start file b (at + 1) tick
  unfolding by_status
  by_channel b l m = rw (le-ltb b 0x80 l, lt-ltb b 0xF0 (omega arith))

  by_meta : by_status start file running at tick 0xFF ≡ meta start file (at + 1) tick
  unfolding by_status
  by_meta = refl

  by_f0 : by_status start file running at tick 0xF0 ≡ skipped start file (at + 1) tick
  unfolding by_status
  by_f0 = refl

  by_f7 : by_status start file running at tick 0xF7 ≡ skipped start file (at + 1) tick
  unfolding by_status
  by_f7 = refl

-- ---- what is said, then what follows

singled : (file : List ℕ) (at : ℕ) (b : ℕ) (bytes values rest : List ℕ) → bytes ≡ b ∷ values → drop at file ≡ bytes ++ rest
    → drop at file ≡ b ∷ (values ++ rest)
singled file at b bytes values rest is e = e ∙ ap (λ (l : List ℕ). l ++ rest) is

-- the byte here, and the event by it
record ReadOn (start : ℕ) (file : List ℕ) (running at tick : ℕ) (e : Step) : Type 0 where
  first : ℕ
  rest : List ℕ
  here : drop at file ≡ first ∷ rest
  event : by_status start file running at tick first ≡ Ok e

module _ (start : ℕ) (file : List ℕ) (running at tick : ℕ) where
  -- a channel message with its status
  with_status : (status : ℕ) (values bytes rest : List ℕ) → ChannelMessage running status values bytes → bytes ≡ status ∷ values
      → drop at file ≡ bytes ++ rest
      → ReadOn start file running at tick (event_of tick (channel status values) (reader (at + length bytes) status tick))
  with_status status values bytes rest c is e =
      let f = singled file at status bytes values rest is e in
      let (_, _, later) = front file at status (values ++ rest) f in
      let long : length bytes ≡ suc (length values) = ap length is in
      let next_is : at + 1 + length values ≡ at + length bytes = omega arith in
      record {
        first = status;
        rest = values ++ rest;
        here = f;
        event =
            by_channel start file running at tick status c.least c.most
            ∙ message_read start file status (at + 1) tick values rest c.data_bytes c.at_most_127 later
            ∙ ap (λ k. Ok (event_of tick (channel status values) (reader k status tick))) next_is;
      }

  -- under the running status
  without_status : (status : ℕ) (values bytes rest : List ℕ) → ChannelMessage running status values bytes → running ≡ status
      → bytes ≡ values → drop at file ≡ bytes ++ rest
      → ReadOn start file running at tick (event_of tick (channel status values) (reader (at + length bytes) status tick))
  without_status status [] bytes rest c r is e = none_so c.data_bytes
    where
      none_so : {P : Type 0}
          → ((0xC0 ≤ status) × (status ≤ 0xDF) × (length {A = ℕ} [] ≡ 1))
          ⊎ (((status < 0xC0) ⊎ (0xDF < status)) × (length {A = ℕ} [] ≡ 2)) → P
      none_so (inl (a, b, z)) = absurd (omega arith)
      none_so (inr (a, z)) = absurd (omega arith)
  without_status status (x ∷ xs) bytes rest c r is e =
      let f : drop at file ≡ x ∷ (xs ++ rest) = singled file at x bytes xs rest is e in
      let next_is : at + length (x ∷ xs) ≡ at + length bytes = ap (λ (l : List ℕ). at + length l) (sym is) in
      record {
        first = x;
        rest = xs ++ rest;
        here = f;
        event =
            by_data start file running at tick x (c.at_most_127 x (inl refl)) (omega (arith, c.least))
            ∙ ap (λ s. message start file s at tick) r
            ∙ message_read start file status at tick (x ∷ xs) rest c.data_bytes c.at_most_127 f
            ∙ ap (λ k. Ok (event_of tick (channel status (x ∷ xs)) (reader k status tick))) next_is;
      }

  -- skipped
  skip_f : (b : ℕ) (size body bytes rest : List ℕ) → bytes ≡ b ∷ (size ++ body)
      → by_status start file running at tick b ≡ skipped start file (at + 1) tick → IsNumber size (length body)
      → drop at file ≡ bytes ++ rest → ReadOn start file running at tick (Silent (reader (at + length bytes) 0 tick))
  skip_f b size body bytes rest is by n e =
      let f : drop at file ≡ b ∷ (size ++ (body ++ rest)) =
      singled file at b bytes (size ++ body) rest is e ∙ ap (λ (l : List ℕ). b ∷ l) (append_assoc size body rest) in
      let (_, _, later) = front file at b (size ++ (body ++ rest)) f in
      let long : length bytes ≡ suc (length (size ++ body)) = ap length is in
      let next_is : at + 1 + length size + length body ≡ at + length bytes = omega (arith, length-append size body) in
      record {
        first = b;
        rest = size ++ (body ++ rest);
        here = f;
        event = by ∙ skipped_read start file (at + 1) tick size body rest n later ∙ ap (λ k. Ok (Silent (reader k 0 tick))) next_is;
      }

  skip_meta : (type : ℕ) (size body bytes rest : List ℕ) → type ≤ 127 → (type ≡ 0x2F → ⊥) → bytes ≡ 0xFF ∷ type ∷ (size ++ body)
      → IsNumber size (length body)
      → drop at file ≡ bytes ++ rest → ReadOn start file running at tick (Silent (reader (at + length bytes) 0 tick))
  skip_meta type size body bytes rest l k is n e =
      let f : drop at file ≡ 0xFF ∷ type ∷ (size ++ (body ++ rest)) =
      singled file at 0xFF bytes (type ∷ (size ++ body)) rest is e ∙ ap (λ (l : List ℕ). 0xFF ∷ type ∷ l) (append_assoc size body rest) in
      let (_, _, later) = front file at 0xFF (type ∷ (size ++ (body ++ rest))) f in
      let (_, _, latest) = front file (at + 1) type (size ++ (body ++ rest)) later in
      let long : length bytes ≡ suc (suc (length (size ++ body))) = ap length is in
      let next_is : at + 1 + 1 + length size + length body ≡ at + length bytes = omega (arith, length-append size body) in
      record {
        first = 0xFF;
        rest = type ∷ (size ++ (body ++ rest));
        here = f;
        event =
            by_meta start file running at tick
            ∙ meta_other start file (at + 1) tick type (size ++ (body ++ rest)) l k later
            ∙ skipped_read start file (at + 1 + 1) tick size body rest n latest
            ∙ ap (λ k. Ok (Silent (reader k 0 tick))) next_is;
      }

  says_read : (said : Said) (bytes rest : List ℕ) → Says running said bytes → drop at file ≡ bytes ++ rest
      → ReadOn start file running at tick (event_of tick said (reader (at + length bytes) (running_after said) tick))
  says_read (channel status values) bytes rest c e = step c.written
    where
      step : (bytes ≡ status ∷ values) ⊎ ((running ≡ status) × (bytes ≡ values))
          → ReadOn start file running at tick (event_of tick (channel status values) (reader (at + length bytes) status tick))
      step (inl is) = with_status status values bytes rest c is e
      step (inr (r, is)) = without_status status values bytes rest c r is e
  says_read skipped_over bytes rest s e = step s.kind
    where
      headed : (xs : List ℕ) → s.front ≡ xs → bytes ≡ xs ++ (s.size ++ s.body)
      headed xs is = s.bytes_are ∙ ap (λ (l : List ℕ). l ++ (s.size ++ s.body)) is

      step : (s.front ≡ 0xF0 ∷ [])
          ⊎ ((s.front ≡ 0xF7 ∷ []) ⊎ ((type : ℕ) × (type ≤ 127) × (type ≡ 0x2F → ⊥) × (s.front ≡ 0xFF ∷ type ∷ [])))
          → ReadOn start file running at tick (Silent (reader (at + length bytes) 0 tick))
      step (inl is) =
          skip_f 0xF0 s.size s.body bytes rest (headed (0xF0 ∷ []) is) (by_f0 start file running at tick) s.sized e
      step (inr (inl is)) =
          skip_f 0xF7 s.size s.body bytes rest (headed (0xF7 ∷ []) is) (by_f7 start file running at tick) s.sized e
      step (inr (inr (type, l, k, is))) =
          skip_meta type s.size s.body bytes rest l k (headed (0xFF ∷ type ∷ []) is) s.sized e

-- ---- an event

timed_read : (file : List ℕ) (from : Reader) (time : List ℕ) (delta : ℕ) (more : List ℕ) (e : Step) → IsNumber time delta
    → drop from.at file ≡ time ++ more
    → ReadOn from.at file from.running (from.at + length time) (from.tick + delta) e → read_event file from ≡ Ok e
unfolding read_event
timed_read file from time delta more e is f r =
    rw (
      number_read file from.at time delta more is f,
      byte_read from.at file (from.at + length time) r.first r.rest r.here,
      r.event,
    )

pub event_read : (file : List ℕ) (from : Reader) (t : Timed) (rest : List ℕ) → IsNumber t.time t.delta
    → Says from.running t.said t.bytes → drop from.at file ≡ t.time ++ (t.bytes ++ rest)
    → read_event file from
    ≡ Ok (event_of (from.tick + t.delta) t.said
    (reader (from.at + length t.time + length t.bytes) (running_after t.said) (from.tick + t.delta)))
event_read file from t rest is says e =
    timed_read file from t.time t.delta (t.bytes ++ rest) _ is e
    (says_read from.at file from.running (from.at + length t.time) (from.tick + t.delta) t.said t.bytes rest says
    (behind file from.at t.time (t.bytes ++ rest) e))

-- the end of track, whatever follows it
pub end_read : (file : List ℕ) (from : Reader) (time : List ℕ) (delta : ℕ) (rest : List ℕ) → IsNumber time delta
    → drop from.at file ≡ time ++ (0xFF ∷ 0x2F ∷ 0x00 ∷ rest) → read_event file from ≡ Ok (Ends (from.at + length time + 1 + 2))
end_read file from time delta rest is e =
    let f = behind file from.at time (0xFF ∷ 0x2F ∷ 0x00 ∷ rest) e in
    let (_, _, later) = front file (from.at + length time) 0xFF (0x2F ∷ 0x00 ∷ rest) f in
    timed_read file from time delta (0xFF ∷ 0x2F ∷ 0x00 ∷ rest) _ is e
    (record {
      first = 0xFF;
      rest = 0x2F ∷ 0x00 ∷ rest;
      here = f;
      event =
          by_meta from.at file from.running (from.at + length time) (from.tick + delta)
          ∙ meta_end from.at file (from.at + length time + 1) (from.tick + delta) rest later;
    })
