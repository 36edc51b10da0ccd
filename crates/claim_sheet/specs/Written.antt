-- One claim across writer and sheet: of a bar that was handed in and written, the sheet shows what was handed in. Proved in
-- proofs/Shown.antt.
use Rattle.std.specs.Prelude.{Err, Ok, ℕ, ◌≤◌, ◌<◌, ◌≡◌, List, ◌⊎◌, ◌↔◌}
use Rattle.common.specs.Elements.{◌∈◌}
use Rattle.segment.specs.declared.refusal.Refusal.{Refusal}
use Rattle.segment.specs.Refusals.{unknown_bar, bar_too_long}
use Rattle.segment.specs.Records.{Term}
use Rattle.segment.specs.Metadata.{document}
use Rattle.calls.specs.Given.{Lists, given}
use Rattle.calls.specs.Writing.{write}
use Rattle.calls.specs.Sheet.{sheet, bar_sheet}
use Rattle.roundtrip.specs.Claims.{Typed}
use Rattle.claim_joint.specs.Own.{Stands}
use Rattle.claim_sheet.specs.Words.{Hit, OnPaper}

-- a bar with this id and length was handed in
abbrev pub Bar : Lists → (id len : ℕ) → Type 0
Bar l id len = document id len ∈ (given l).documents

pub record ShowsWhatWasHandedIn (l : Lists) (bytes : List ℕ) (id : ℕ) : Type 0 where
  -- a sheet is answered exactly for a bar handed in of at most 64 steps, and is that bar on paper, with the sounds handed in
  pub shown : (text : List ℕ) → (bar_sheet bytes id ≡ Ok text)
      ↔ ((len : ℕ) × Bar l id len × (len ≤ 64) × OnPaper id len (given l).terms text)
  -- it is the one computed of what was handed in
  pub computed : (len : ℕ) → Bar l id len → len ≤ 64 → bar_sheet bytes id ≡ Ok (sheet id len (given l).terms)
  -- 16 exactly where no bar handed in has the id, 17 exactly where it is longer than 64 steps; nothing else is refused
  pub unknown : (bar_sheet bytes id ≡ Err unknown_bar) ↔ ((len : ℕ) → Bar l id len → ⊥)
  pub too_long : (bar_sheet bytes id ≡ Err bar_too_long) ↔ ((len : ℕ) × Bar l id len × (64 < len))
  pub no_other : (x : Refusal) → bar_sheet bytes id ≡ Err x → (x ≡ unknown_bar) ⊎ (x ≡ bar_too_long)
  -- a sound's hits are those that stand in the lists handed in under its name and the bar's id
  pub hits : (t : Term) → t ∈ (given l).terms → (step : ℕ) → Hit t id step ↔ Stands l id t.name step

abbrev pub SheetOfWhatWasWritten : Type 0
SheetOfWhatWasWritten =
    (l : Lists) (room : ℕ) (bytes : List ℕ) → Typed l → write l room ≡ Ok bytes → (id : ℕ) → ShowsWhatWasHandedIn l bytes id
