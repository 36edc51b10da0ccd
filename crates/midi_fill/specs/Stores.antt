-- The filling pass: each hit is stored at once, in the part of the lists that belongs to its sound. No store reads a list: the tables hold
-- what is stored.
use Rattle.std.specs.Prelude.{ℕ, ◌+◌, ◌-◌, ◌/◌, ◌%◌, cond, List, eqb, get_or, set}
use Rattle.midi_read.specs.declared.track.Hit.{Hit}
use Rattle.midi_read.specs.Files.{Grid, step_of}
use Rattle.midi_bars.specs.Bars.{greater}
use Rattle.midi_count.specs.Tallies.{fresh, opens, raised}

-- the positions in the last bar, the new one among them
abbrev pub in_last : (more new before : ℕ) → ℕ
in_last more new before = cond (eqb more 0) (before + new) new

-- the greatest velocity on the last step, the new one among them
abbrev pub loud_last : (new held velocity : ℕ) → ℕ
loud_last new held v = cond (eqb new 0) (greater held v) v

-- the places of a hit: its posting and its position, the last of its sound so far
abbrev pub place : (starts : List ℕ) (note held : ℕ) → ℕ
place starts n held = get_or starts n 0 + held - 1

-- the tables (the counting pass's, the positions in a sound's last bar, the greatest velocity on its last step) and the lists, as the
-- functions take them
pub record Buffers : Type 0 where
  pub last : List ℕ
  pub postings : List ℕ
  pub positions : List ℕ
  pub inside : List ℕ
  pub loud : List ℕ
  pub ids : List ℕ
  pub counts : List ℕ
  pub steps : List ℕ
  pub velocities : List ℕ

abbrev pub buffers : (last postings positions inside loud ids counts steps velocities : List ℕ) → Buffers
buffers l p q i k a b c d = record {
  last = l;
  postings = p;
  positions = q;
  inside = i;
  loud = k;
  ids = a;
  counts = b;
  steps = c;
  velocities = d;
}

-- a hit stored; `starts` and `marks` say where the postings and the positions of each sound begin. A hit on its sound's last step is equal
-- to it, and stores the same values again, or its velocity where it is the louder one
abbrev pub stored : (starts marks : List ℕ) (note step steps velocity : ℕ) → Buffers → Buffers
stored starts marks n step steps v x =
    let more = opens (get_or x.last n 0) step steps in
    let new = fresh (get_or x.last n 0) step in
    let inside = in_last more new (get_or x.inside n 0) in
    let loud = loud_last new (get_or x.loud n 0) v in
    let a = place starts n (get_or x.postings n 0 + more) in
    let b = place marks n (get_or x.positions n 0 + new) in
    record {
      last = set x.last n (step + 1);
      postings = raised x.postings n more;
      positions = raised x.positions n new;
      inside = set x.inside n inside;
      loud = set x.loud n loud;
      ids = set x.ids a (step / steps);
      counts = set x.counts a inside;
      steps = set x.steps b (step % steps);
      velocities = set x.velocities b loud;
    }

-- the pass puts each hit
abbrev pub put : Grid → (starts marks : List ℕ) → Buffers → Hit → Buffers
put g starts marks x h = stored starts marks h.note (step_of g h) g.steps h.velocity x
