-- By induction over the calls: while the words hold the map, each call's promise is the map's answer, and the words hold the next map.
-- Assumes nothing.
use Rattle.std.specs.Prelude.{Err, Ok}
use mathlib.Core.Path.{◌≡◌, refl, sym, ap, ◌∙◌, subst}
use mathlib.Core.Bool.{true}
use mathlib.Core.List.{List, [], ◌∷◌}
use Prim.Native.Nat.{ℕ}
use lib.ListN.{length}
use Rattle.segment.specs.Refusals.{broken_pad}
use Rattle.segment.specs.Results.{Answer}
use Rattle.segment.proofs.Binds.{ok_same}
use Rattle.segment.proofs.Accepted.{check_gives}
use Rattle.pad_map.specs.Bars.{Bar, without, hits_in_all}
use Rattle.pad_map.specs.Acts.{save, erase, read, write_out}
use Rattle.pad_words.specs.Words.{held}
use Rattle.pad_words.specs.Whole.{whole}
use Rattle.pad_words.specs.Calls.{held_bars, pad_save, pad_erase, pad_read, pad_write, saved_words, erased_words}
use Rattle.pad_words.proofs.Wholes.{total_is}
use Rattle.pad_words.proofs.Exactly.{whole_exactly, zeros_empty}
use Rattle.pad_read.specs.Counter.{pad_hits}
use Rattle.pad_record.specs.Promise.{save_answer, erase_answer, BarSaved, BarErased}
use Rattle.claim_pad.specs.Sequences.{Event, Saved, Erased, Read, WrittenOut, Shown, Promised, Run, saved_map, erased_map}
use Rattle.claim_pad.specs.Sequences.{map_next, map_after, MapAnswered, AllAnswered, AsTheMap, ActsAsMap, FromEmpty}

-- ---- words that hold a map: the calls are the map's

module _ (pad : List ℕ) (bars : List Bar) (h : held_bars pad ≡ Ok bars) where
  pub holds_these : (whole pad ≡ true) × (held pad ≡ bars)
  unfolding held_bars
  holds_these = let c = check_gives (whole pad) broken_pad _ h in (c.0, ok_same c.1)

  pub save_by_map : (id len : ℕ) (ss ts vs : List ℕ) → pad_save pad id len ss ts vs ≡ save bars id len ss ts vs
  unfolding pad_save
  save_by_map id len ss ts vs = rw h

  pub erase_by_map : (id : ℕ) → pad_erase pad id ≡ erase bars id
  unfolding pad_erase
  erase_by_map id = rw h

  pub read_by_map : (id sr tr vr : ℕ) → pad_read pad id sr tr vr ≡ read bars id sr tr vr
  unfolding pad_read
  read_by_map id sr tr vr = rw h

  pub write_by_map : (text ends : List ℕ) (room : ℕ) → pad_write pad text ends room ≡ write_out bars text ends room
  unfolding pad_write
  write_by_map text ends room = rw h

  -- the number that they store
  pub shown : pad_hits pad ≡ hits_in_all bars
  shown = let (w, is) = holds_these in sym (total_is pad w) ∙ ap hits_in_all is

  -- ---- the map afterwards

  saved_holds : (id len : ℕ) (ss ts vs : List ℕ) {r : Answer ℕ} {pad' : List ℕ} → BarSaved pad id len ss ts vs r pad'
      → (told : Answer (List Bar)) → save bars id len ss ts vs ≡ told → held_bars pad' ≡ Ok (saved_map told bars)
  saved_holds id len ss ts vs p (Ok after) e = p.map after (save_by_map id len ss ts vs ∙ e)
  saved_holds id len ss ts vs p (Err x) e =
      ap held_bars (p.words ∙ ap (λ q. saved_words q pad) (save_by_map id len ss ts vs ∙ e)) ∙ h

  erased_holds : (id : ℕ) {r : Answer ℕ} {pad' : List ℕ} → BarErased pad id r pad' → (told : Answer Bar)
      → erase bars id ≡ told → held_bars pad' ≡ Ok (erased_map id told bars)
  erased_holds id p (Ok b) e = p.map b (erase_by_map id ∙ e) ∙ ap (λ q. Ok (without id q)) holds_these.1
  erased_holds id p (Err x) e = ap held_bars (p.words ∙ ap (λ q. erased_words id q pad) (erase_by_map id ∙ e)) ∙ h

  -- ---- one call

  pub next_holds : (e : Event) (pad' : List ℕ) → Promised e pad pad' → held_bars pad' ≡ Ok (map_next e bars)
  next_holds (Saved id len ss ts vs r) pad' p = saved_holds id len ss ts vs p (save bars id len ss ts vs) refl
  next_holds (Erased id r) pad' p = erased_holds id p (erase bars id) refl
  next_holds (Read id ss ts vs r ss' ts' vs') pad' (p, same) = ap held_bars same ∙ h
  next_holds (WrittenOut text ends out r out') pad' (p, same) = ap held_bars same ∙ h
  next_holds (Shown n) pad' (p, same) = ap held_bars same ∙ h

  pub answered : (e : Event) (pad' : List ℕ) → Promised e pad pad' → MapAnswered e bars
  answered (Saved id len ss ts vs r) pad' p = p.reply ∙ ap (save_answer (length ss)) (save_by_map id len ss ts vs)
  answered (Erased id r) pad' p = p.reply ∙ ap erase_answer (erase_by_map id)
  answered (Read id ss ts vs r ss' ts' vs') pad' (p, same) =
      let is = read_by_map id (length ss) (length ts) (length vs) in
      (rw is at p.reply, rw is at p.sounds_left, rw is at p.steps_left, rw is at p.velocities_left)
  answered (WrittenOut text ends out r out') pad' (p, same) =
      let is = write_by_map text ends (length out) in
      (rw is at p.reply, rw is at p.left)
  answered (Shown n) pad' (p, same) = p ∙ shown

-- ---- any number of calls

run_answers : (es : List Event) (pad : List ℕ) (bars : List Bar) (pad' : List ℕ) → held_bars pad ≡ Ok bars → Run es pad pad'
    → AllAnswered es bars × (held_bars pad' ≡ Ok (map_after es bars))
run_answers [] pad bars pad' h same = (tt, ap held_bars same ∙ h)
run_answers (e ∷ es) pad bars pad' h (next, p, later) =
    let rest = run_answers es next (map_next e bars) pad' (next_holds pad bars h e next p) later in
    ((answered pad bars h e next p, rest.0), rest.1)

-- the words of a whole pad hold the map that they hold
pub holds_own : (pad : List ℕ) → whole pad ≡ true → held_bars pad ≡ Ok (held pad)
unfolding held_bars
holds_own pad w = rw w

pub acts_as_map : ActsAsMap
acts_as_map es pad pad' w run =
    let (answers, after) = run_answers es pad (held pad) pad' (holds_own pad ((whole_exactly pad).1 w)) run in
    let (w', holds) = holds_these pad' (map_after es (held pad)) after in
    record { answers = answers; whole = (whole_exactly pad').0 w'; holds = holds }

pub from_empty : FromEmpty
from_empty es pad pad' empty run =
    let (w, none) = zeros_empty pad empty in
    subst (λ bars. AsTheMap es bars pad') none (acts_as_map es pad pad' w run)
