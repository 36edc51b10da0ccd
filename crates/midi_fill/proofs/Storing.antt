-- What is stored for a hit: how large it is, that the code's locals are the definition's, and that the counts never fall.
-- Assumes nothing.
use Rattle.std.specs.Prelude.{Ok}
use mathlib.Core.Path.{◌≡◌, ap}
use mathlib.Core.Bool.{Bool, true, false, cond}
use mathlib.Core.List.{List, [], ◌∷◌}
use Prim.Native.Nat.{ℕ, zero, suc, ◌+◌, ◌-◌, ◌/◌, ◌%◌, ◌≤◌}
use native.Mathlib.Omega.{arith}
use lib.Dec.{eqb}
use lib.ListN.{length, get_or, set}
use Rattle.segment.proofs.Binds.{bind_gives, ok_same}
use Rattle.midi_read.specs.declared.track.Hit.{Hit}
use Rattle.midi_read.specs.declared.track.Reader.{Reader}
use Rattle.midi_read.specs.Files.{Grid, step_of, hits_from}
use Rattle.midi_read.specs.Walks.{over, walk}
use Rattle.midi_count.specs.Tallies.{Tallies, fresh, opens, raised, tally}
use Rattle.midi_fill.specs.Stores.{in_last, loud_last, Buffers, buffers, stored}

pub in_last_le : (more new before : ℕ) → in_last more new before ≤ before + new
in_last_le more new before = go (eqb more 0)
  where
    go : (a : Bool) → cond a (before + new) new ≤ before + new
    go true = omega arith
    go false = omega arith

pub stored_as : (starts marks : List ℕ) (n step steps v : ℕ) (x : Buffers) {more new count loudest bar position : ℕ}
    → more ≡ opens (get_or x.last n 0) step steps
    → new ≡ fresh (get_or x.last n 0) step
    → count ≡ in_last more new (get_or x.inside n 0)
    → loudest ≡ loud_last new (get_or x.loud n 0) v
    → bar ≡ step / steps
    → position ≡ step % steps
    → buffers (set x.last n (step + 1)) (set x.postings n (get_or x.postings n 0 + more))
    (set x.positions n (get_or x.positions n 0 + new))
    (set x.inside n count)
    (set x.loud n loudest)
    (set x.ids (get_or starts n 0 + (get_or x.postings n 0 + more) - 1) bar)
    (set x.counts (get_or starts n 0 + (get_or x.postings n 0 + more) - 1) count)
    (set x.steps (get_or marks n 0 + (get_or x.positions n 0 + new) - 1) position)
    (set x.velocities (get_or marks n 0 + (get_or x.positions n 0 + new) - 1) loudest)
    ≡ stored starts marks n step steps v x
stored_as starts marks n step steps v x e f g k b p = rw (p, b, k, g, f, e)

-- ---- counts never fall

raised_up : (l : List ℕ) (i by n : ℕ) → get_or l n 0 ≤ get_or (raised l i by) n 0
raised_up [] i by n = omega arith
raised_up (x ∷ l) zero by zero = omega arith
raised_up (x ∷ l) zero by (suc n) = omega arith
raised_up (x ∷ l) (suc i) by zero = omega arith
raised_up (x ∷ l) (suc i) by (suc n) = raised_up l i by n

module _ (g : Grid) where
  postings_up : (t : Tallies) (hs : List Hit) (n : ℕ) → get_or t.postings n 0 ≤ get_or (over (tally g) t hs).postings n 0
  postings_up t [] n = omega arith
  postings_up t (h ∷ hs) n =
      omega (
        arith,
        raised_up t.postings h.note (opens (get_or t.last h.note 0) (step_of g h) g.steps) n,
        postings_up (tally g t h) hs n,
      )

  positions_up : (t : Tallies) (hs : List Hit) (n : ℕ) → get_or t.positions n 0 ≤ get_or (over (tally g) t hs).positions n 0
  positions_up t [] n = omega arith
  positions_up t (h ∷ hs) n =
      omega (
        arith,
        raised_up t.positions h.note (fresh (get_or t.last h.note 0) (step_of g h)) n,
        positions_up (tally g t h) hs n,
      )

  module _ (file : List ℕ) (from : Reader) (t total : Tallies) (e : walk (tally g) g file from t ≡ Ok total) where
    pub postings_within : (n : ℕ) → get_or t.postings n 0 ≤ get_or total.postings n 0
    postings_within n =
        let (hs, _, f) = bind_gives (hits_from (length file) g file from) (λ hs. Ok (over (tally g) t hs)) e in
        let is : over (tally g) t hs ≡ total = ok_same f in
        omega (arith, postings_up t hs n, ap (λ (u : Tallies). get_or u.postings n 0) is)

    pub positions_within : (n : ℕ) → get_or t.positions n 0 ≤ get_or total.positions n 0
    positions_within n =
        let (hs, _, f) = bind_gives (hits_from (length file) g file from) (λ hs. Ok (over (tally g) t hs)) e in
        let is : over (tally g) t hs ≡ total = ok_same f in
        omega (arith, positions_up t hs n, ap (λ (u : Tallies). get_or u.positions n 0) is)
