-- What follows the status of an event that was read, in words: the data bytes of a channel message, the bytes of a skipped event.
-- Assumes nothing.
use Rattle.std.specs.Prelude.{None, Ok, Option, Some}
use mathlib.Core.Path.{◌≡◌, refl, sym, ap, ◌∙◌}
use mathlib.Core.Bool.{Bool, true, false, cond}
use mathlib.Core.List.{List, [], ◌∷◌, ◌++◌}
use mathlib.Core.Logic.{◌⊎◌, inl, inr}
use Prim.Native.Nat.{ℕ, ◌+◌, ◌≤◌, ◌<◌}
use native.Mathlib.Omega.{arith}
use lib.Dec.{ltb, leb}
use lib.ListN.{length, take, drop, get_or, length-drop, take-append-drop}
use lib.Seq.{drop-drop, length-take-le}
use borrow.Author.Tests.{ltb-true, leb-true}
use Rattle.common.specs.Elements.{◌∈◌}
use Rattle.common.proofs.Elements.{each}
use Rattle.common.proofs.Loops.{drop_step}
use Rattle.segment.specs.Refusals.{midi_file}
use Rattle.segment.specs.Results.{◌>>=◌}
use Rattle.segment.proofs.Binds.{bind_gives, ok_same, refuse_ok}
use Rattle.segment.proofs.Accepted.{check_gives}
use Rattle.midi_read.specs.declared.track.Reader.{Reader}
use Rattle.midi_read.specs.declared.track.Hit.{Hit}
use Rattle.midi_read.specs.declared.track.Number.{Number}
use Rattle.midi_read.specs.Files.{number_from, found, number, byte, low_byte, reader}
use Rattle.midi_read.specs.declared.track.Step.{Step}
use Rattle.midi_read.specs.declared.track.Step.TheVariants.{Sounds, Silent, Ends}
use Rattle.midi_read.specs.Files.{one_data_byte, is_hit, two_data_bytes, message, skipped}
use Rattle.midi_read.specs.Tracks.{IsNumber, channel, with_hit}
use Rattle.midi_read.proofs.Digits.{number_said}
use Rattle.midi_read.proofs.Statuses.{one_byte, two_bytes, note_on_is, silent_one}

-- ---- bytes that were read

pub byte_says : (start : ℕ) (file : List ℕ) (at : ℕ) {b : ℕ} → byte start file at ≡ Ok b → drop at file ≡ b ∷ drop (at + 1) file
byte_says start file at {b} e =
    let (t, f) = check_gives (ltb at (length file)) (midi_file start) _ e in
    let is : get_or file at 0 ≡ b = ok_same f in
    drop_step file at 0 (ltb-true at (length file) t) ∙ ap (λ x. x ∷ drop (at + 1) file) is

pub low_says : (start : ℕ) (file : List ℕ) (at : ℕ) {b : ℕ} → low_byte start file at ≡ Ok b
    → (b ≤ 127) × (drop at file ≡ b ∷ drop (at + 1) file)
low_says start file at {b} e =
    let (a, f, k) = bind_gives (byte start file at) _ e in
    let (t, s) = check_gives (ltb a 128) (midi_file start) _ k in
    let is : a ≡ b = ok_same s in
    (omega (arith, ltb-true a 128 t), byte_says start file at f ∙ ap (λ x. x ∷ drop (at + 1) file) is)

pub number_gives : (start : ℕ) (o : Option Number) {n : Number} → found start o ≡ Ok n → o ≡ Some n
number_gives start None e = refuse_ok e
number_gives start (Some m) e = ap Some (ok_same e)

-- ---- channel messages

pub record MessageAt (file : List ℕ) (status at tick : ℕ) (next : Reader) (hit : List Hit) : Type 0 where
  pub values : List ℕ
  pub count : ((0xC0 ≤ status) × (status ≤ 0xDF) × (length values ≡ 1)) ⊎ (((status < 0xC0) ⊎ (0xDF < status)) × (length values ≡ 2))
  pub low : (b : ℕ) → b ∈ values → b ≤ 127
  pub rest : drop at file ≡ values ++ drop next.at file
  pub running : next.running ≡ status
  pub same : next.tick ≡ tick
  pub hits_are : (later : List Hit) → with_hit tick (channel status values) later ≡ hit ++ later

abbrev pub MessageSaid : (file : List ℕ) (status at tick : ℕ) → Step → Type 0
MessageSaid file status at tick (Sounds h next) = MessageAt file status at tick next (h ∷ [])
MessageSaid file status at tick (Silent next) = MessageAt file status at tick next []
MessageSaid file status at tick (Ends past) = ⊥

module _ (start : ℕ) (file : List ℕ) (status at tick : ℕ) where
  one_said : (x : ℕ) → one_data_byte status ≡ true → x ≤ 127 → drop at file ≡ x ∷ drop (at + 1) file
      → MessageAt file status at tick (reader (at + 1) status tick) []
  one_said x t l e = record {
    values = x ∷ [];
    count = inl ((one_byte status t).0, (one_byte status t).1, refl);
    low = each (λ b. b ≤ 127) x [] l (λ b m. absurd m);
    rest = e;
    running = refl;
    same = refl;
    hits_are = λ later. rw (silent_one status);
  }

  two_said : (x y : ℕ) (e : Step) → one_data_byte status ≡ false → x ≤ 127 → y ≤ 127 → drop at file ≡ x ∷ drop (at + 1) file
      → drop (at + 1) file ≡ y ∷ drop (at + 1 + 1) file → two_data_bytes status at tick x y ≡ e → MessageSaid file status at tick e
  two_said x y e t l k ex ey is = rw (sym is) (step (is_hit status y) refl)
    where
      both : drop at file ≡ x ∷ y ∷ drop (at + 2) file
      both =
          let f : at + 1 + 1 ≡ at + 2 = omega arith in
          ex ∙ ap (λ (l : List ℕ). x ∷ l) (ey ∙ ap (λ k. y ∷ drop k file) f)

      low : (b : ℕ) → b ∈ (x ∷ y ∷ []) → b ≤ 127
      low = each (λ b. b ≤ 127) x (y ∷ []) l (each (λ b. b ≤ 127) y [] k (λ b m. absurd m))

      step : (b : Bool) → is_hit status y ≡ b
          → MessageSaid file status at tick
          (cond b (Sounds (record { tick = tick; note = x; velocity = y }) (reader (at + 2) status tick))
          (Silent (reader (at + 2) status tick)))
      step true h = record {
        values = x ∷ y ∷ [];
        count = inr (two_bytes status t, refl);
        low = low;
        rest = both;
        running = refl;
        same = refl;
        hits_are = λ later. rw (note_on_is status y, h);
      }
      step false h = record {
        values = x ∷ y ∷ [];
        count = inr (two_bytes status t, refl);
        low = low;
        rest = both;
        running = refl;
        same = refl;
        hits_are = λ later. rw (note_on_is status y, h);
      }

  pub message_said : (e : Step) → message start file status at tick ≡ Ok e → MessageSaid file status at tick e
  unfolding message
  message_said e f =
      let (x, low, g) = bind_gives (low_byte start file at) _ f in
      let (l, ex) = low_says start file at low in
      step (one_data_byte status) refl x l ex g
    where
      step : (b : Bool) → one_data_byte status ≡ b → (x : ℕ) → x ≤ 127 → drop at file ≡ x ∷ drop (at + 1) file
          → cond b (Ok (Silent (reader (at + 1) status tick)))
          (low_byte start file (at + 1) >>= (λ y. Ok (two_data_bytes status at tick x y))) ≡ Ok e
          → MessageSaid file status at tick e
      step true t x l ex g = let is : Silent (reader (at + 1) status tick) ≡ e = ok_same g in rw (sym is) (one_said x t l ex)
      step false t x l ex g =
          let (y, low, k) = bind_gives (low_byte start file (at + 1)) _ g in
          let (m, ey) = low_says start file (at + 1) low in
          two_said x y e t l m ex ey (ok_same k)

-- ---- skipped events

pub record SkipAt (file : List ℕ) (at tick : ℕ) (next : Reader) : Type 0 where
  pub size : List ℕ
  pub body : List ℕ
  pub sized : IsNumber size (length body)
  pub rest : drop at file ≡ size ++ (body ++ drop next.at file)
  pub running : next.running ≡ 0
  pub same : next.tick ≡ tick

abbrev pub SkipSaid : (file : List ℕ) (at tick : ℕ) → Step → Type 0
SkipSaid file at tick (Sounds h next) = ⊥
SkipSaid file at tick (Silent next) = SkipAt file at tick next
SkipSaid file at tick (Ends past) = ⊥

module _ (start : ℕ) (file : List ℕ) where
  pub skipped_said : (at tick : ℕ) (e : Step) → skipped start file at tick ≡ Ok e → SkipSaid file at tick e
  unfolding skipped
  skipped_said at tick e f =
      let (n, read, g) = bind_gives (number start file at) _ f in
      let d = number_said file at n (number_gives start (number_from 4 0 file at) read) in
      let (t, k) = check_gives (leb (n.next + n.value) (length file)) (midi_file start) _ g in
      let is : Silent (reader (n.next + n.value) 0 tick) ≡ e = ok_same k in
      let inside : n.next + n.value ≤ length file = leb-true _ _ t in
      let long : length (take n.value (drop n.next file)) ≡ n.value =
      length-take-le n.value (drop n.next file) (omega (arith, length-drop n.next file)) in
      let parts : drop n.next file ≡ take n.value (drop n.next file) ++ drop (n.next + n.value) file =
      sym (take-append-drop n.value (drop n.next file))
      ∙ ap (λ (l : List ℕ). take n.value (drop n.next file) ++ l) (drop-drop n.value n.next file) in
      rw (sym is)
      (record {
        size = d.bytes;
        body = take n.value (drop n.next file);
        sized = rw long d.is;
        rest = d.rest ∙ ap (λ (l : List ℕ). d.bytes ++ l) parts;
        running = refl;
        same = refl;
      })
