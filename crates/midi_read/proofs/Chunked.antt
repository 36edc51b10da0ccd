-- What stands before the events: each way out of the two chunks.
-- Assumes nothing.
use Rattle.std.specs.Prelude.{Err, Ok}
use mathlib.Core.Path.{◌≡◌, sym, ap, ◌∙◌}
use mathlib.Core.Bool.{Bool, true, false}
use mathlib.Core.List.{List}
use Prim.Native.Nat.{ℕ, ◌+◌, ◌-◌, ◌/◌, ◌≤◌, ◌<◌}
use native.Mathlib.Omega.{arith}
use lib.ListN.{length, take, drop, length-drop}
use lib.Seq.{take_all}
use borrow.Author.Tests.{le-leb, lt-leb, eq-eqb, ne_eqb}
use Rattle.segment.specs.declared.refusal.Refusal.{Refusal}
use Rattle.segment.specs.Refusals.{too_large, midi_file}
use Rattle.segment.specs.Results.{Answer}
use Rattle.segment.specs.Names.{same}
use Rattle.midi_read.specs.Files.{big_field, header_start, heading_start, division_fits, header, heading, chunks}
use Rattle.midi_read.specs.Promise.{grid_answer}

-- ---- the header chunk

module _ (quarter : ℕ) (file : List ℕ) where
  abbrev H : Answer ℕ
  H = header quarter file

  pub header_short : length file < 14 → Err (midi_file 0) ≡ H
  unfolding header
  header_short h = rw (lt-leb 14 (length file) h)

  module _ (long : 14 ≤ length file) where
    pub header_other : same (take 12 file) header_start ≡ false → Err (midi_file 0) ≡ H
    unfolding header
    header_other e = rw (le-leb 14 (length file) long, e)

    module _ (starts : same (take 12 file) header_start ≡ true) {d : ℕ} (is : d ≡ big_field 2 12 file) where
      pub header_unfit : division_fits quarter d ≡ false → Err (midi_file 0) ≡ H
      unfolding header
      header_unfit e = rw (le-leb 14 (length file) long, starts, ← is, e)

      pub header_fits : {t : ℕ} → division_fits quarter d ≡ true → t ≡ d / quarter → Ok t ≡ H
      unfolding header
      header_fits e f = rw (le-leb 14 (length file) long, starts, ← is, e, f)

-- ---- the track chunk's heading

-- the bytes from 14 on, as the code lends them
pub from_14 : (file : List ℕ) {b r : Bool} → r ≡ same (take 4 (take (length file - 14) (drop 14 file))) heading_start → r ≡ b
    → same (take 4 (drop 14 file)) heading_start ≡ b
from_14 file e f =
    let all = sym (take_all (length file - 14) (drop 14 file) (rw length-drop (omega arith))) in
    ap (λ (l : List ℕ). same (take 4 l) heading_start) all ∙ sym e ∙ f

module _ (file : List ℕ) where
  abbrev T : Answer (Unit {0})
  T = heading file

  pub heading_short : length file < 22 → Err (midi_file 14) ≡ T
  unfolding heading
  heading_short h = rw (lt-leb 22 (length file) h)

  module _ (long : 22 ≤ length file) where
    pub heading_other : same (take 4 (drop 14 file)) heading_start ≡ false → Err (midi_file 14) ≡ T
    unfolding heading
    heading_other e = rw (le-leb 22 (length file) long, e)

    module _ (starts : same (take 4 (drop 14 file)) heading_start ≡ true) {n : ℕ} (is : n ≡ big_field 4 18 file) where
      pub heading_unfit : (22 + n ≡ length file → ⊥) → Err (midi_file 14) ≡ T
      unfolding heading
      heading_unfit e = rw (le-leb 22 (length file) long, starts, ← is, ne_eqb (22 + n) (length file) e)

      pub heading_fits : 22 + n ≡ length file → (Ok tt) ≡ T
      unfolding heading
      heading_fits e = rw (le-leb 22 (length file) long, starts, ← is, eq-eqb (22 + n) (length file) e)

-- ---- both

module _ (steps quarter : ℕ) (file : List ℕ) where
  abbrev C : Answer ℕ
  C = grid_answer (chunks steps quarter file)

  pub chunks_large : 16777216 < length file → Err too_large ≡ C
  unfolding chunks
  chunks_large h = rw (lt-leb (length file) 16777216 h)

  module _ (small : length file ≤ 16777216) where
    pub chunks_header : {x : Refusal} → header quarter file ≡ Err x → Err x ≡ C
    unfolding chunks
    chunks_header e = rw (le-leb (length file) 16777216 small, e)

    module _ {t : ℕ} (e : header quarter file ≡ Ok t) where
      pub chunks_heading : {x : Refusal} → heading file ≡ Err x → Err x ≡ C
      unfolding chunks
      chunks_heading f = rw (le-leb (length file) 16777216 small, e, f)

      pub chunks_fit : heading file ≡ (Ok tt) → Ok t ≡ C
      unfolding chunks
      chunks_fit f = rw (le-leb (length file) 16777216 small, e, f)
