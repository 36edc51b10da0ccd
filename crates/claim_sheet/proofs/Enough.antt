-- How many bytes a sheet has at most: 81 for the first line, 117 for each term.
-- Assumes nothing.
use Rattle.std.specs.Prelude.{Ok}
use mathlib.Core.Path.{◌≡◌, refl, sym, ap, ◌∙◌}
use mathlib.Core.List.{List, [], ◌∷◌}
use mathlib.Core.Logic.{inl, inr}
use Prim.Native.Nat.{ℕ, ◌+◌, ◌*◌, ◌≤◌, ◌<◌}
use native.Mathlib.Omega.{arith}
use lib.ListN.{length, length-append}
use Rattle.common.specs.Elements.{◌∈◌}
use Rattle.segment.specs.Records.{Document, Term, Entry, Segment}
use Rattle.segment.specs.Postings.{decode}
use Rattle.segment.specs.Contents.{decode_all}
use Rattle.segment.proofs.Binds.{bind_gives, ok_same}
use Rattle.calls.specs.Sheet.{heading, line_of, sound_lines, sheet}
use Rattle.show_sheet.proofs.Entries.{line_most}
use Rattle.show_sheet.proofs.Drawn.{heading_length}
use Rattle.claim_sheet.specs.Claims.{AlwaysEnough}
use Rattle.claim_sheet.proofs.Hitting.{Fits, hits_of}
use Rattle.claim_sheet.proofs.BarKnown.{bar_small, bar_from}
use Rattle.claim_sheet.proofs.Decoding.{all_fit}
use Rattle.claim_sheet.proofs.Agreed.{computed, sheet_in_words}

-- ---- as many sounds as terms

sounds_many : (documents : List Document) (es : List Entry) {ts : List Term} → decode_all documents es ≡ Ok ts → length ts ≡ length es
unfolding decode_all
sounds_many documents [] d = sym (ap length (ok_same d))
sounds_many documents (e ∷ es) d =
    let (ps, is, f) = bind_gives (decode documents e) _ d in
    let (more, those, g) = bind_gives (decode_all documents es) _ f in
    omega (arith, ap length (ok_same g), sounds_many documents es those)

-- ---- their lines

module _ (id len : ℕ) (short : len ≤ 64) where
  lines_most : (ts : List Term) → ((t : Term) → t ∈ ts → Fits id len t) → length (sound_lines id len ts) ≤ 117 * length ts
  unfolding sound_lines
  lines_most [] fit = omega arith
  lines_most (t ∷ ts) fit =
      let few : length (hits_of t id) < 10000 = omega (arith, (fit t (inl refl)).few) in
      omega (
        arith,
        length-append (line_of len t.name (hits_of t id)) (sound_lines id len ts),
        line_most len t.name (hits_of t id) few,
        lines_most ts (λ u m. fit u (inr m)),
      )

  sheet_most : id < 10000000000 → (ts : List Term) → ((t : Term) → t ∈ ts → Fits id len t)
      → length (sheet id len ts) ≤ 81 + 117 * length ts
  unfolding sheet
  sheet_most small ts fit = omega (
    arith,
    length-append (heading id len) (sound_lines id len ts),
    heading_length id len small (omega arith),
    lines_most ts fit,
  )

-- ---- the whole

pub always_enough : AlwaysEnough
always_enough bytes id text s e opens =
    let w = (sheet_in_words bytes id text).0 e in
    let known = bar_from bytes w.opens id w.len w.known in
    let fit = all_fit w.segment.documents id w.len known w.segment.entries w.decoded in
    let is = ok_same (sym e ∙ computed bytes id w.opens w.known w.short w.decoded) in
    let same : w.segment ≡ s = ok_same (sym w.opens ∙ opens) in
    omega (
      arith,
      ap length is,
      sheet_most id w.len w.short (omega (arith, bar_small bytes w.opens id w.len w.known)) w.sounds fit,
      sounds_many w.segment.documents w.segment.entries w.decoded,
      ap (λ (x : Segment). length x.entries) same,
    )
