-- What writing and then showing a bar promises: the claim in words, and beside it the promises of the two calls, one after the other, for
-- every outcome. The claim names nothing that the writer or the sheet computes: only what is handed in and the bar on paper in words.
use Rattle.claim_joint.specs.Demand.{answered}
use Rattle.claim_joint.specs.declared.ask.Asked.{Asked}
use Rattle.std.specs.Prelude.{Err, Ok, ℕ, ◌≤◌, ◌<◌, ◌≡◌, List, ◌⊎◌, length, take}
use Rattle.segment.specs.Results.{Answer}
use Rattle.segment.specs.Refusals.{unknown_bar, bar_too_long, no_room}
use Rattle.calls.specs.Given.{Lists, given}
use Rattle.calls.specs.Replies.{fronted}
use Rattle.write_segment.specs.Promise.{Wrote}
use Rattle.show_sheet.specs.Promise.{SheetAnswered}
use Rattle.claim_sheet.specs.Words.{OnPaper}
use Rattle.claim_sheet.specs.Written.{Bar}

-- with room the text's length is answered, and the text is at the front of the lent sheet; without, 13 with the length, and the sheet is
-- as it was
abbrev pub PutOn : (text sheet : List ℕ) → Answer ℕ → (sheet' : List ℕ) → Type 0
PutOn text sheet c sheet' =
    ((length text ≤ length sheet) × (c ≡ Ok (length text)) × (sheet' ≡ fronted text sheet))
    ⊎ ((length sheet < length text) × (c ≡ Err (no_room 1 (length text))) × (sheet' ≡ sheet))

-- what is answered of an id, by the bars of the lists handed in
pub record BarShown (l : Lists) (id : ℕ) (sheet : List ℕ) (c : Answer ℕ) (sheet' : List ℕ) : Type 0 where
  -- a bar of at most 64 steps is on paper, with the sounds handed in
  pub shown : (len : ℕ) → Bar l id len → len ≤ 64
      → (text : List ℕ) × OnPaper id len (given l).terms text × PutOn text sheet c sheet'
  -- 16 where no bar handed in has the id, 17 where it is longer than 64 steps
  pub unknown : ((len : ℕ) → Bar l id len → ⊥) → (c ≡ Err unknown_bar) × (sheet' ≡ sheet)
  pub too_long : (len : ℕ) → Bar l id len → 64 < len → (c ≡ Err bar_too_long) × (sheet' ≡ sheet)

-- where the writer refused, nothing is shown, and no lent place is changed
abbrev pub Claim : (l : Lists) (out : List ℕ) (id : ℕ) (sheet : List ℕ) → Answer Asked → (out' sheet' : List ℕ) → Type 0
Claim l out id sheet (Err x) out' sheet' = (out' ≡ out) × (sheet' ≡ sheet)
Claim l out id sheet (Ok a) out' sheet' = BarShown l id sheet a.answer sheet'

-- the writer's refusal is handed on; else the sheet is asked for of exactly the bytes written
abbrev pub Called : (l : Lists) (out : List ℕ) (id : ℕ) (sheet : List ℕ) → Answer Asked → (out' sheet' : List ℕ) → Type 0
Called l out id sheet (Err x) out' sheet' = Wrote l out (Err x) out' × (sheet' ≡ sheet)
Called l out id sheet (Ok a) out' sheet' = Wrote l out (Ok a.written) out' × SheetAnswered (take a.written out') id sheet a.answer sheet'

pub record WrittenThenShown (l : Lists) (out : List ℕ) (id : ℕ) (sheet : List ℕ) (r : Answer Asked) (out' sheet' : List ℕ) : Type 0 where
  pub claim : Claim l out id sheet r out' sheet'
  pub called : Called l out id sheet r out' sheet'
