-- An event that was read, in words: its delta time, what it says, and the reader behind it.
-- Assumes nothing.
use Rattle.std.specs.Prelude.{Err, Ok}
use mathlib.Core.Path.{◌≡◌, refl, sym, ap, ◌∙◌}
use mathlib.Core.Bool.{Bool, true, false, cond}
use mathlib.Core.List.{List, [], ◌∷◌, ◌++◌, append_assoc}
use mathlib.Core.Logic.{◌⊎◌, inl, inr}
use Prim.Native.Nat.{ℕ, ◌+◌, ◌≤◌}
use native.Mathlib.Omega.{arith}
use lib.Dec.{ltb, eqb}
use lib.ListN.{drop}
use borrow.Author.Tests.{ltb-true, ltb-false, eqb-true, eqb-false}
use Rattle.common.proofs.Membership.{or_cases}
use Rattle.segment.specs.Refusals.{midi_file}
use Rattle.segment.specs.Results.{◌>>=◌, check}
use Rattle.segment.proofs.Binds.{bind_gives, ok_same, refuse_ok}
use Rattle.segment.proofs.Accepted.{check_gives}
use Rattle.midi_read.specs.declared.track.Reader.{Reader}
use Rattle.midi_read.specs.declared.track.Hit.{Hit}
use Rattle.midi_read.specs.declared.track.Number.{Number}
use Rattle.midi_read.specs.Files.{number_from, number, byte, low_byte, exclusive, message, skipped, meta, by_status, read_event}
use Rattle.midi_read.specs.declared.track.Step.{Step}
use Rattle.midi_read.specs.declared.track.Step.TheVariants.{Sounds, Silent, Ends}
use Rattle.midi_read.specs.Tracks.{IsNumber, Said, channel, skipped_over, Timed, Says, running_after, with_hit}
use Rattle.midi_read.proofs.Digits.{NumberAt, number_said}
use Rattle.midi_read.proofs.Messages.{byte_says, low_says, number_gives, MessageAt, MessageSaid, message_said, SkipSaid, skipped_said}

-- ---- behind its delta time

record Behind (file : List ℕ) (running at tick : ℕ) (next : Reader) (hit : List Hit) : Type 0 where
  said : Said
  bytes : List ℕ
  says : Says running said bytes
  rest : drop at file ≡ bytes ++ drop next.at file
  running_is : next.running ≡ running_after said
  same : next.tick ≡ tick
  hits_are : (later : List Hit) → with_hit tick said later ≡ hit ++ later

abbrev BehindSaid : (file : List ℕ) (running at tick : ℕ) → Step → Type 0
BehindSaid file running at tick (Sounds h next) = Behind file running at tick next (h ∷ [])
BehindSaid file running at tick (Silent next) = Behind file running at tick next []
BehindSaid file running at tick (Ends past) = drop at file ≡ 0xFF ∷ 0x2F ∷ 0x00 ∷ drop past file

-- a status that can run
abbrev pub Runs : (running : ℕ) → Type 0
Runs running = (running ≡ 0) ⊎ ((0x80 ≤ running) × (running ≤ 0xEF))

module _ (file : List ℕ) (running status at tick : ℕ) (least : 0x80 ≤ status) (most : status ≤ 0xEF) where
  -- the message, written so
  channel_said : (bytes : List ℕ) (from : ℕ) (next : Reader) (hit : List Hit) (m : MessageAt file status from tick next hit)
      → (bytes ≡ status ∷ m.values) ⊎ ((running ≡ status) × (bytes ≡ m.values)) → drop at file ≡ bytes ++ drop next.at file
      → Behind file running at tick next hit
  channel_said bytes from next hit m written rest = record {
    said = channel status m.values;
    bytes = bytes;
    says = record { least = least; most = most; data_bytes = m.count; at_most_127 = m.low; written = written };
    rest = rest;
    running_is = m.running;
    same = m.same;
    hits_are = m.hits_are;
  }

  -- under the running status
  data_said : running ≡ status → (e : Step) → MessageSaid file status at tick e → BehindSaid file running at tick e
  data_said is (Sounds h next) m = channel_said m.values at next (h ∷ []) m (inr (is, refl)) m.rest
  data_said is (Silent next) m = channel_said m.values at next [] m (inr (is, refl)) m.rest
  data_said is (Ends past) m = absurd m

  -- with its own
  status_first : drop at file ≡ status ∷ drop (at + 1) file → (e : Step) → MessageSaid file status (at + 1) tick e
      → BehindSaid file running at tick e
  status_first is (Sounds h next) m =
      channel_said (status ∷ m.values) (at + 1) next (h ∷ []) m (inl refl) (is ∙ ap (λ (l : List ℕ). status ∷ l) m.rest)
  status_first is (Silent next) m =
      channel_said (status ∷ m.values) (at + 1) next [] m (inl refl) (is ∙ ap (λ (l : List ℕ). status ∷ l) m.rest)
  status_first is (Ends past) m = absurd m

module _ (file : List ℕ) (running at tick : ℕ) where
  -- behind F0 and F7
  exclusive_said : (b : ℕ) → exclusive b ≡ true → drop at file ≡ b ∷ drop (at + 1) file → (e : Step) → SkipSaid file (at + 1) tick e
      → BehindSaid file running at tick e
  exclusive_said b x is (Sounds h next) m = absurd m
  exclusive_said b x is (Silent next) m = record {
    said = skipped_over;
    bytes = b ∷ (m.size ++ m.body);
    says = record {
      front = b ∷ [];
      size = m.size;
      body = m.body;
      bytes_are = refl;
      kind = which (or_cases (eqb b 0xF0) (eqb b 0xF7) x);
      sized = m.sized;
    };
    rest = is ∙ ap (λ (l : List ℕ). b ∷ l) (m.rest ∙ sym (append_assoc m.size m.body (drop next.at file)));
    running_is = m.running;
    same = m.same;
    hits_are = λ later. refl;
  }
    where
      which : (eqb b 0xF0 ≡ true) ⊎ (eqb b 0xF7 ≡ true)
          → (b ∷ [] ≡ 0xF0 ∷ []) ⊎ ((b ∷ [] ≡ 0xF7 ∷ []) ⊎ ((type : ℕ) × (type ≤ 127) × (type ≡ 0x2F → ⊥) × (b ∷ [] ≡ 0xFF ∷ type ∷ [])))
      which (inl e) = inl (ap (λ c. c ∷ []) (eqb-true _ _ e))
      which (inr e) = inr (inl (ap (λ c. c ∷ []) (eqb-true _ _ e)))
  exclusive_said b x is (Ends past) m = absurd m

module _ (start : ℕ) (file : List ℕ) (running at tick : ℕ) (here : drop at file ≡ 0xFF ∷ drop (at + 1) file) where
  -- a meta event that is skipped
  other_meta : (type : ℕ) → type ≤ 127 → (type ≡ 0x2F → ⊥) → drop (at + 1) file ≡ type ∷ drop (at + 1 + 1) file → (e : Step)
      → SkipSaid file (at + 1 + 1) tick e → BehindSaid file running at tick e
  other_meta type l k is (Sounds h next) m = absurd m
  other_meta type l k is (Silent next) m = record {
    said = skipped_over;
    bytes = 0xFF ∷ type ∷ (m.size ++ m.body);
    says = record {
      front = 0xFF ∷ type ∷ [];
      size = m.size;
      body = m.body;
      bytes_are = refl;
      kind = inr (inr (type, l, k, refl));
      sized = m.sized;
    };
    rest =
        here ∙ ap (λ (l : List ℕ). 0xFF ∷ l)
        (is ∙ ap (λ (l : List ℕ). type ∷ l) (m.rest ∙ sym (append_assoc m.size m.body (drop next.at file))));
    running_is = m.running;
    same = m.same;
    hits_are = λ later. refl;
  }
  other_meta type l k is (Ends past) m = absurd m

  meta_said : (e : Step) → meta start file (at + 1) tick ≡ Ok e → BehindSaid file running at tick e
  unfolding meta
  meta_said e f =
      let (x, low, g) = bind_gives (low_byte start file (at + 1)) _ f in
      let (l, ex) = low_says start file (at + 1) low in
      step (eqb x 0x2F) refl x refl l ex g
    where
      closes : (past : ℕ) (x z : ℕ) → x ≡ 0x2F → z ≡ 0 → past ≡ at + 1 + 2 → drop (at + 1) file ≡ x ∷ drop (at + 1 + 1) file
          → drop (at + 1 + 1) file ≡ z ∷ drop (at + 1 + 1 + 1) file → drop at file ≡ 0xFF ∷ 0x2F ∷ 0x00 ∷ drop past file
      closes past x z ex ez ep a b =
          let f : at + 1 + 1 + 1 ≡ past = omega arith in
          here ∙ ap (λ (l : List ℕ). 0xFF ∷ l)
          (a
          ∙ ap (λ (l : List ℕ). x ∷ l) (b ∙ ap (λ k. z ∷ drop k file) f ∙ ap (λ k. k ∷ drop past file) ez)
          ∙ ap (λ k. k ∷ 0x00 ∷ drop past file) ex)

      step : (b : Bool) {y : ℕ} → eqb y 0x2F ≡ b → (x : ℕ) → x ≡ y → x ≤ 127 → drop (at + 1) file ≡ x ∷ drop (at + 1 + 1) file
          → cond b (byte start file (at + 1 + 1) >>= (λ z. check (eqb z 0) (midi_file start) >>= (λ _. Ok (Ends (at + 1 + 2)))))
          (skipped start file (at + 1 + 1) tick) ≡ Ok e
          → BehindSaid file running at tick e
      step true {y} t x s l ex g =
          let (z, read, k) = bind_gives (byte start file (at + 1 + 1)) _ g in
          let (u, j) = check_gives (eqb z 0) (midi_file start) _ k in
          let is : Ends (at + 1 + 2) ≡ e = ok_same j in
          rw (sym is) (closes (at + 1 + 2) x z (s ∙ eqb-true _ _ t) (eqb-true _ _ u) refl ex (byte_says start file (at + 1 + 1) read))
      step false {y} t x s l ex g =
          other_meta x l (λ q. eqb-false y 0x2F t (sym s ∙ q)) ex e (skipped_said start file (at + 1 + 1) tick e g)

module _ (start : ℕ) (file : List ℕ) (running at tick : ℕ) (runs : Runs running) where
  status_said : (b : ℕ) (e : Step) → drop at file ≡ b ∷ drop (at + 1) file → by_status start file running at tick b ≡ Ok e
      → BehindSaid file running at tick e
  unfolding by_status
  status_said b e here f = first (ltb b 0x80) (ltb b 0xF0) (eqb b 0xFF) (exclusive b) (eqb running 0) refl refl refl refl refl f
    where
      kept_so : Runs running → eqb running 0 ≡ false → (0x80 ≤ running) × (running ≤ 0xEF)
      kept_so (inl z) r = absurd (eqb-false running 0 r z)
      kept_so (inr u) r = u

      first : (d c m x r : Bool) → ltb b 0x80 ≡ d → ltb b 0xF0 ≡ c → eqb b 0xFF ≡ m → exclusive b ≡ x → eqb running 0 ≡ r
          → cond d (cond r (Err (midi_file start)) (message start file running at tick))
          (cond c (message start file b (at + 1) tick)
          (cond m (meta start file (at + 1) tick)
          (cond x (skipped start file (at + 1) tick) (Err (midi_file start))))) ≡ Ok e
          → BehindSaid file running at tick e
      first true c m x true hd hc hm hx hr f = refuse_ok f
      first true c m x false hd hc hm hx hr f =
          let (least, most) = kept_so runs hr in
          data_said file running running at tick least most refl e (message_said start file running at tick e f)
      first false true m x r hd hc hm hx hr f =
          status_first file running b at tick (ltb-false b 0x80 hd) (omega (arith, ltb-true b 0xF0 hc)) here e
          (message_said start file b (at + 1) tick e f)
      first false false true x r hd hc hm hx hr f =
          meta_said start file running at tick (here ∙ ap (λ c. c ∷ drop (at + 1) file) (eqb-true _ _ hm)) e f
      first false false false true r hd hc hm hx hr f =
          exclusive_said file running at tick b hx here e (skipped_said start file (at + 1) tick e f)
      first false false false false r hd hc hm hx hr f = refuse_ok f

-- ---- an event

pub record OneEvent (file : List ℕ) (from next : Reader) (hit : List Hit) : Type 0 where
  pub event : Timed
  pub timed : IsNumber event.time event.delta
  pub says : Says from.running event.said event.bytes
  pub rest : drop from.at file ≡ event.time ++ (event.bytes ++ drop next.at file)
  pub running_is : next.running ≡ running_after event.said
  pub tick_is : next.tick ≡ from.tick + event.delta
  pub hits_are : (later : List Hit) → with_hit (from.tick + event.delta) event.said later ≡ hit ++ later

pub record TheEnd (file : List ℕ) (from : Reader) (past : ℕ) : Type 0 where
  pub time : List ℕ
  pub delta : ℕ
  pub timed : IsNumber time delta
  pub rest : drop from.at file ≡ time ++ (0xFF ∷ 0x2F ∷ 0x00 ∷ drop past file)

abbrev pub EventSaid : (file : List ℕ) (from : Reader) → Step → Type 0
EventSaid file from (Sounds h next) = OneEvent file from next (h ∷ [])
EventSaid file from (Silent next) = OneEvent file from next []
EventSaid file from (Ends past) = TheEnd file from past

pub event_said : (file : List ℕ) (from : Reader) (e : Step) → Runs from.running → read_event file from ≡ Ok e → EventSaid file from e
unfolding read_event
event_said file from e runs f =
    let (n, read, g) = bind_gives (number from.at file from.at) _ f in
    let (b, here, k) = bind_gives (byte from.at file n.next) _ g in
    step e n (number_said file from.at n (number_gives from.at (number_from 4 0 file from.at) read))
    (status_said from.at file from.running n.next (from.tick + n.value) runs b e (byte_says from.at file n.next here) k)
  where
    made : (n : Number) (next : Reader) (hit : List Hit) → NumberAt file from.at n
        → Behind file from.running n.next (from.tick + n.value) next hit → OneEvent file from next hit
    made n next hit d m = record {
      event = record { delta = n.value; time = d.bytes; said = m.said; bytes = m.bytes };
      timed = d.is;
      says = m.says;
      rest = d.rest ∙ ap (λ (l : List ℕ). d.bytes ++ l) m.rest;
      running_is = m.running_is;
      tick_is = m.same;
      hits_are = m.hits_are;
    }

    step : (e : Step) (n : Number) → NumberAt file from.at n → BehindSaid file from.running n.next (from.tick + n.value) e
        → EventSaid file from e
    step (Sounds h next) n d m = made n next (h ∷ []) d m
    step (Silent next) n d m = made n next [] d m
    step (Ends past) n d m = record {
      time = d.bytes;
      delta = n.value;
      timed = d.is;
      rest = d.rest ∙ ap (λ (l : List ℕ). d.bytes ++ l) m;
    }
