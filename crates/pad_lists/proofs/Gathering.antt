-- The pass over the bars of a pad for one sound: a turn, and the end.
-- Assumes nothing.
use mathlib.Core.Path.{◌≡◌, ap, ◌∙◌}
use mathlib.Core.Bool.{cond}
use mathlib.Core.List.{List, ◌∷◌}
use Prim.Native.Nat.{ℕ, ◌+◌, ◌-◌, ◌*◌, ◌≤◌, ◌<◌}
use native.Mathlib.Omega.{arith}
use lib.Dec.{ltb}
use lib.ListN.{length, drop, get_or, set, length-set}
use Rattle.common.specs.Stores.{Stored}
use Rattle.pad_map.specs.Acts.{steps_of}
use Rattle.pad_words.specs.Words.{pad_words, hits_of, held}
use Rattle.pad_words.proofs.Steps.{hits_many, bar_at}
use Rattle.pad_words.proofs.Wholes.{held_many}
use Rattle.pad_lists.specs.declared.sound.Gathered.{Gathered}
use Rattle.pad_lists.specs.Steps.{lower, leading, SoundFits, SoundGathered}
use Rattle.pad_lists.proofs.Runs.{lower_few, lower_next, run_all, drop_hits}
use Rattle.pad_lists.proofs.Walks.{Walk, walk_start, hits_few, bar_here, walk_room, walk_next, here_rising, walk_end}
use Rattle.pad_lists.proofs.Cursors.{CursorsAt, at_start, cursor_here, cursor_next, at_end}
use Rattle.pad_lists.proofs.Listed.{Listed, listed_start, listed_next, listed_all, listed_count}

-- before bar i, which begins at an offset
pub record Gathering (pad : List ℕ) (sound at i n filled : ℕ) (cs ids counts positions : List ℕ) : Type 0 where
  pub walk : Walk pad i at
  pub cursors_long : length cs ≡ 256
  pub cursors : CursorsAt sound (held pad) i cs
  pub listed : Listed sound (held pad) (drop i (held pad)) n filled ids counts positions

-- what a turn's sums and places lean on
pub record Turn (pad : List ℕ) (at i n filled done : ℕ) : Type 0 where
  pub words : length pad ≡ pad_words
  pub inside : at + (3 + 2 * get_or pad (at + 2) 0) ≤ pad_words
  pub bar : i < 256
  pub cursor : done ≤ get_or pad (at + 2) 0
  pub posting : n < 256
  pub position : filled + get_or pad (at + 2) 0 ≤ 8192

pub gathering_start : {pad : List ℕ} {sound : ℕ} {cs ids counts positions : List ℕ} → SoundFits pad sound cs ids counts positions
    → Gathering pad sound 2 0 0 0 cs ids counts positions
gathering_start {pad} f =
    let w = walk_start pad f.whole_pad in
    let p = f.places in
    record {
      walk = w;
      cursors_long = p.cursors_long;
      cursors = at_start f.cursors;
      listed = listed_start p.ids_long p.counts_long p.positions_long (omega (arith, held_many pad, w.bars))
          (hits_few pad f.whole_pad);
    }

module _ {pad : List ℕ} {sound at i n filled : ℕ} {cs ids counts positions : List ℕ}
    (g : Gathering pad sound at i n filled cs ids counts positions) where
  module _ (h : i < get_or pad 0 0) where
    here : drop i (held pad) ≡ bar_at pad at ∷ drop (i + 1) (held pad)
    here = bar_here g.walk h

    many : length (bar_at pad at).hits ≡ get_or pad (at + 2) 0
    many = hits_many (get_or pad (at + 2) 0) (drop (at + 3) pad)

    next_listed : Listed sound (held pad) (bar_at pad at ∷ drop (i + 1) (held pad)) n filled ids counts positions
    next_listed = rw here at g.listed

    past_lower : get_or cs i 0 ≡ lower sound (bar_at pad at).hits
    past_lower = cursor_here g.cursors here

    pub turn : Turn pad at i n filled (get_or cs i 0)
    turn = record {
      words = g.walk.words;
      inside = walk_room g.walk h;
      bar = omega (arith, g.walk.bars);
      cursor = omega (arith, past_lower, lower_few sound (bar_at pad at).hits, many);
      posting = omega (arith, next_listed.few);
      position = omega (arith, next_listed.room, many);
    }

    module _ {hits done next : ℕ} {positions' : List ℕ} (a : hits ≡ get_or pad (at + 2) 0) (b : done ≡ get_or cs i 0)
        (s : Stored (leading sound (hits_of (hits - done) (drop (at + 3 + 2 * done) pad))) filled positions next positions') where
      -- the run is all of the bar's hits of the sound
      run_is : leading sound (hits_of (hits - done) (drop (at + 3 + 2 * done) pad)) ≡ steps_of sound (bar_at pad at).hits
      run_is =
          let t = turn in
          rw a
          (ap (leading sound) (drop_hits done (get_or pad (at + 2) 0) (at + 3) pad (omega (arith, t.cursor)))
          ∙ rw (b ∙ past_lower) (run_all sound (bar_at pad at).hits (here_rising g.walk h)))

      stored : Stored (steps_of sound (bar_at pad at).hits) filled positions next positions'
      stored = rw run_is at s

      pub gathering_next : {count n' : ℕ} → count ≡ next - filled → n' ≡ cond (ltb 0 count) (n + 1) n
          → Gathering pad sound (at + (3 + 2 * hits)) (i + 1) n' next
          (set cs i (done + count)) (set ids n (get_or pad at 0)) (set counts n count) positions'
      gathering_next {count} c e =
          let t = turn in
          let k : count ≡ length (steps_of sound (bar_at pad at).hits) = omega (arith, stored.past) in
          record {
            walk = walk_next g.walk h hits a;
            cursors_long = length-set cs i (done + count) ∙ g.cursors_long;
            cursors = cursor_next g.cursors here (omega (arith, t.bar, g.cursors_long))
                (omega (arith, b, past_lower, lower_next sound (bar_at pad at).hits));
            listed = listed_next next_listed stored k e;
          }

  pub gathered : {r : Gathered} → get_or pad 0 0 ≤ i → r.postings ≡ n → r.positions ≡ filled
      → SoundGathered pad sound r cs ids counts positions
  gathered e a b =
      let none = walk_end g.walk e in
      let l = rw none at g.listed in
      record {
        few_postings = omega (arith, l.few);
        few_positions = omega (arith, l.room);
        count = a ∙ listed_count l;
        enough = rw (a, b) l.enough;
        postings = rw (a, b) (listed_all l);
        cursors = at_end g.cursors none;
        places = record {
          cursors_long = g.cursors_long;
          ids_long = l.ids_long;
          counts_long = l.counts_long;
          positions_long = l.positions_long;
        };
      }
