-- Document 02, wishes 6, 7 and 9: a pad acts as a plain map, the one that it holds. From any pad, be it all zeros, read from where it was
-- stored, or one from which all was erased, after any calls, of any number, refused ones among them, every answer was the map's, and the
-- words are a pad again, which holds the map after the same calls.
use Rattle.std.specs.Prelude.{Err, Ok, ℕ, ◌≡◌, List, [], ◌∷◌, length}
use Rattle.segment.specs.Results.{Answer}
use Rattle.segment.specs.declared.replies.BarRead.{BarRead}
use Rattle.calls.specs.Replies.{length_of_written, filled}
use Rattle.pad_map.specs.Bars.{Bar, without, hits_in_all}
use Rattle.pad_map.specs.Acts.{save, erase, read, write_out}
use Rattle.pad_words.specs.Words.{held}
use Rattle.pad_words.specs.Whole.{Whole}
use Rattle.pad_words.specs.Claims.{Empty}
use Rattle.pad_read.specs.Counter.{pad_hits}
use Rattle.pad_read.specs.Promise.{read_answer, bar_sounds, bar_steps, bar_velocities, BarReadBack}
use Rattle.pad_record.specs.Promise.{save_answer, erase_answer, BarSaved, BarErased}
use Rattle.pad_write.specs.Promise.{PadWritten}

-- ---- what was called, and what the caller then saw: the reply, and the lent lists afterwards

pub data Event : Type 0 where
  Saved : (id len : ℕ) (sounds steps velocities : List ℕ) → Answer ℕ → Event
  Erased : (id : ℕ) → Answer ℕ → Event
  Read : (id : ℕ) (sounds steps velocities : List ℕ) → Answer BarRead → (sounds' steps' velocities' : List ℕ) → Event
  WrittenOut : (text ends out : List ℕ) → Answer ℕ → (out' : List ℕ) → Event
  Shown : (hits : ℕ) → Event

-- each call keeps its promise on the words that the one before left; reading, writing out and the counter take the pad as a shared slice
-- (`&[u32]`), through which nothing can be changed, so that their promises need not say that the words stay: here it is said
abbrev pub Promised : Event → (pad pad' : List ℕ) → Type 0
Promised (Saved id len ss ts vs r) pad pad' = BarSaved pad id len ss ts vs r pad'
Promised (Erased id r) pad pad' = BarErased pad id r pad'
Promised (Read id ss ts vs r ss' ts' vs') pad pad' = BarReadBack pad id ss ts vs r ss' ts' vs' × (pad' ≡ pad)
Promised (WrittenOut text ends out r out') pad pad' = PadWritten pad text ends out r out' × (pad' ≡ pad)
Promised (Shown n) pad pad' = (n ≡ pad_hits pad) × (pad' ≡ pad)

abbrev pub Run : List Event → (pad pad' : List ℕ) → Type 0
Run [] pad pad' = pad' ≡ pad
Run (e ∷ es) pad pad' = (next : List ℕ) × Promised e pad next × Run es next pad'

-- ---- the same calls on the map alone

-- the map afterwards; a refusal leaves it, and so do reading, writing out and the counter
abbrev pub saved_map : Answer (List Bar) → List Bar → List Bar
saved_map (Ok after) bars = after
saved_map (Err x) bars = bars

abbrev pub erased_map : (id : ℕ) → Answer Bar → List Bar → List Bar
erased_map id (Ok b) bars = without id bars
erased_map id (Err x) bars = bars

abbrev pub map_next : Event → List Bar → List Bar
map_next (Saved id len ss ts vs r) bars = saved_map (save bars id len ss ts vs) bars
map_next (Erased id r) bars = erased_map id (erase bars id) bars
map_next (Read id ss ts vs r ss' ts' vs') bars = bars
map_next (WrittenOut text ends out r out') bars = bars
map_next (Shown n) bars = bars

abbrev pub map_after : List Event → List Bar → List Bar
map_after [] bars = bars
map_after (e ∷ es) bars = map_after es (map_next e bars)

-- what the caller saw is what the map answers
abbrev pub MapAnswered : Event → List Bar → Type 0
MapAnswered (Saved id len ss ts vs r) bars = r ≡ save_answer (length ss) (save bars id len ss ts vs)
MapAnswered (Erased id r) bars = r ≡ erase_answer (erase bars id)
MapAnswered (Read id ss ts vs r ss' ts' vs') bars =
    let told = read bars id (length ss) (length ts) (length vs) in
    (r ≡ read_answer told)
    × (ss' ≡ filled bar_sounds told ss)
    × (ts' ≡ filled bar_steps told ts)
    × (vs' ≡ filled bar_velocities told vs)
MapAnswered (WrittenOut text ends out r out') bars =
    let told = write_out bars text ends (length out) in
    (r ≡ length_of_written told) × (out' ≡ filled (λ xs. xs) told out)
MapAnswered (Shown n) bars = n ≡ hits_in_all bars

abbrev pub AllAnswered : List Event → List Bar → Type 0
AllAnswered [] bars = Unit {0}
AllAnswered (e ∷ es) bars = MapAnswered e bars × AllAnswered es (map_next e bars)

-- ---- the claims; proved in proofs/Acting.antt

pub record AsTheMap (events : List Event) (bars : List Bar) (pad' : List ℕ) : Type 0 where
  pub answers : AllAnswered events bars
  pub whole : Whole pad'
  pub holds : held pad' ≡ map_after events bars

-- from any pad, as the map that it holds
abbrev pub ActsAsMap : Type 0
ActsAsMap = (events : List Event) (pad pad' : List ℕ) → Whole pad → Run events pad pad' → AsTheMap events (held pad) pad'

-- from all zeros, as the empty map
abbrev pub FromEmpty : Type 0
FromEmpty = (events : List Event) (pad pad' : List ℕ) → Empty pad → Run events pad pad' → AsTheMap events [] pad'
