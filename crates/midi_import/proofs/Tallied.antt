-- What the counting pass says of a file whose header and heading were read.
-- Assumes nothing.
use Rattle.std.specs.Prelude.{Err, Ok}
use mathlib.Core.Path.{◌≡◌, refl, sym, ap, subst, ◌∙◌}
use mathlib.Core.List.{List}
use Prim.Native.Nat.{ℕ, ◌≤◌}
use native.Mathlib.Omega.{arith}
use Rattle.segment.specs.declared.refusal.Refusal.{Refusal}
use Rattle.segment.specs.Results.{Answer, ◌>>=◌}
use Rattle.midi_read.specs.declared.track.Hit.{Hit}
use Rattle.midi_read.specs.Files.{Grid, grid, hits, first_event}
use Rattle.midi_read.specs.Walks.{walk}
use Rattle.midi_read.proofs.Fine.{read_so}
use Rattle.midi_count.specs.Tallies.{Tallies, tally}
use Rattle.midi_count.specs.Promise.{zeros, tallies, bars_answer, TablesLeft, Countable, Counts}
use Rattle.midi_count.specs.Claims.{counted}
use Rattle.midi_count.proofs.Tallying.{zeros_low}
use Rattle.midi_count.proofs.Sounding.{counting_right}
use Rattle.midi_fill.proofs.Passed.{some_ticks, framed}
use Rattle.midi_import.specs.Steps.{Chunked, Readable, Tabled}
use Rattle.midi_import.proofs.Listed.{fine}

module _ {file : List ℕ} {ticks steps : ℕ} (w : Chunked file ticks steps) where
  abbrev g : Grid
  g = grid ticks steps

  pub a_tick : 1 ≤ ticks
  a_tick = some_ticks steps w.quarter file g w.chunks_read

  pub countable : Countable file ticks steps (zeros 128) (zeros 128)
  countable =
      let f = framed steps w.quarter file g w.chunks_read in
      record {
        small = f.small;
        headed = f.headed;
        some_ticks = a_tick;
        some_steps = w.some_steps;
        steps_few = w.few_steps;
        no_postings = zeros_low 128;
        no_positions = zeros_low 128;
      }

  -- the pass over the hits
  abbrev passed : Answer (List Hit) → Answer Tallies
  passed r = r >>= (λ hs. Ok (counted g hs))

  walked : walk (tally g) g file first_event (tallies 0 (zeros 128) (zeros 128) (zeros 128)) ≡ passed (hits g file)
  unfolding hits
  walked = refl

  module _ {r : (Answer ℕ)} {l p q : List ℕ} (c : Counts g file (zeros 128) (zeros 128) (zeros 128) r l p q) where
    pub count_refused : {x : Refusal} → r ≡ Err x → hits g file ≡ Err x
    count_refused {x} e = step (hits g file) (ap bars_answer (sym walked) ∙ sym c.reply ∙ e)
      where
        step : (h : Answer (List Hit)) → bars_answer (passed h) ≡ Err x → h ≡ Err x
        step (Ok hs) e = let z : ◌≡◌ {A = ℕ} 0 1 = cc in absurd (omega arith)
        step (Err y) e = ap Err cc

    pub count_tabled : {bars : ℕ} → r ≡ Ok bars → Tabled file ticks steps bars p q
    count_tabled {bars} e =
        step (hits g file) refl (ap bars_answer (sym walked) ∙ sym c.reply ∙ e)
        (subst (λ (t : Answer Tallies). TablesLeft t l p q) walked c.left)
      where
        step : (h : Answer (List Hit)) → hits g file ≡ h → bars_answer (passed h) ≡ Ok bars → TablesLeft (passed h) l p q
            → Tabled file ticks steps bars p q
        step (Ok hs) is e (_, pe, qe) =
            let readable : Readable file ticks steps hs = record { chunked = w; hits_read = is } in
            let all : bars ≡ (counted g hs).bars = cc in
            let right = counting_right g hs a_tick (fine file ticks steps hs readable) (read_so g file hs is).in_order in
            record { hs = hs; readable = readable; bars_are = all ∙ right.bars; postings_are = pe; positions_are = qe }
        step (Err x) is e t = let z : ◌≡◌ {A = ℕ} 0 1 = cc in absurd (omega arith)
