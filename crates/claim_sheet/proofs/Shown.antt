-- Of what was written, the sheet shows what was handed in, and refuses 16 and 17 only.
-- Assumes nothing.
use Rattle.std.specs.Prelude.{Err, None, Ok, Option, Some}
use mathlib.Core.Path.{◌≡◌, refl, sym, ap, ◌∙◌, subst}
use mathlib.Core.List.{List}
use mathlib.Core.Logic.{◌⊎◌, ⊎_elim, inl, inr}
use Prim.Native.Nat.{ℕ, ◌≤◌, ◌<◌}
use native.Mathlib.Omega.{arith}
use Rattle.common.specs.Elements.{◌∈◌}
use Rattle.common.proofs.Loops.{lt_or_ge}
use Rattle.segment.specs.declared.refusal.Refusal.{Refusal}
use Rattle.segment.specs.Refusals.{numbers, unknown_bar, bar_too_long}
use Rattle.segment.specs.Records.{Document, Segment, Given}
use Rattle.segment.specs.Metadata.{document, length_of}
use Rattle.segment.specs.Opening.{open_segment}
use Rattle.segment.specs.Contents.{decode_all, decode_segment}
use Rattle.segment.proofs.Binds.{bind_gives, ok_same}
use Rattle.calls.specs.Given.{Lists, given}
use Rattle.calls.specs.Acceptance.{ListsFine}
use Rattle.calls.specs.Sheet.{sheet, bar_sheet}
use Rattle.calls.specs.Writing.{write}
use Rattle.calls.proofs.Accepts.{accepted_gives}
use Rattle.roundtrip.specs.Claims.{Typed}
use Rattle.roundtrip.proofs.ReadsBack.{reads_back}
use Rattle.claim_sheet.specs.Words.{OnPaper}
use Rattle.claim_sheet.specs.Claims.{HasBar, unknown, too_long}
use Rattle.claim_sheet.specs.Written.{Bar, ShowsWhatWasHandedIn, SheetOfWhatWasWritten}
use Rattle.claim_sheet.proofs.Same.{one_sheet}
use Rattle.claim_sheet.proofs.Agreed.{computed, shown_paper}
use Rattle.claim_sheet.proofs.BarKnown.{bar_gives, none_gives}
use Rattle.segment.proofs.Refused.{ok_refuse, refuse_same}
use Rattle.claim_sheet.proofs.Refusing.{refuses_exactly}
use Rattle.claim_sheet.proofs.Standing.{hits_stand}

-- the bytes written open as what was handed in, and every list is decoded
record Opened (l : Lists) (bytes : List ℕ) : Type 0 where
  segment : Segment
  opens : open_segment bytes ≡ Ok segment
  documents : segment.documents ≡ (given l).documents
  decoded : decode_all segment.documents segment.entries ≡ Ok (given l).terms

opened : (l : Lists) (bytes : List ℕ) → decode_segment bytes ≡ Ok (given l) → Opened l bytes
unfolding decode_segment
opened l bytes back =
    let (s, o, f) = bind_gives (open_segment bytes) _ back in
    let (ts, d, g) = bind_gives (decode_all s.documents s.entries) _ f in
    record {
      segment = s;
      opens = o;
      documents = ap (λ (x : Given). x.documents) (ok_same g);
      decoded = d ∙ ap (λ (x : Given). Ok x.terms) (ok_same g);
    }

module _ (l : Lists) (fine : ListsFine l) (bytes : List ℕ) (w : Opened l bytes) (id : ℕ) where
  -- the bars of the segment are those handed in
  bar_there : (len : ℕ) → Bar l id len → HasBar w.segment id len
  bar_there len b = subst (λ (ds : List Document). document id len ∈ ds) (sym w.documents) b

  bar_here : (len : ℕ) → HasBar w.segment id len → Bar l id len
  bar_here len b = subst (λ (ds : List Document). document id len ∈ ds) w.documents b

  data Outcome : Type 0 where
    is_unknown : ((len : ℕ) → Bar l id len → ⊥) → bar_sheet bytes id ≡ Err unknown_bar → Outcome
    is_long : (len : ℕ) → Bar l id len → 64 < len → bar_sheet bytes id ≡ Err bar_too_long → Outcome
    is_shown : (len : ℕ) → Bar l id len → len ≤ 64 → bar_sheet bytes id ≡ Ok (sheet id len (given l).terms) → Outcome

  sheet_shown : (len : ℕ) → Bar l id len → len ≤ 64 → bar_sheet bytes id ≡ Ok (sheet id len (given l).terms)
  sheet_shown len b short = computed bytes id w.opens (bar_there len b) short w.decoded

  long_refused : (len : ℕ) → Bar l id len → 64 < len → bar_sheet bytes id ≡ Err bar_too_long
  long_refused len b far = (refuses_exactly bytes id bar_too_long).1 (too_long w.opens (bar_there len b) far)

  outcome : Outcome
  outcome = by_length (length_of w.segment.documents id) refl
    where
      by_length : (o : Option ℕ) → length_of w.segment.documents id ≡ o → Outcome
      by_length None e =
          let no_bar = none_gives bytes w.opens id e in
          is_unknown
          (λ len b. no_bar len (bar_there len b))
          ((refuses_exactly bytes id unknown_bar).1 (unknown w.opens no_bar))
      by_length (Some len) e =
          let b = bar_here len (bar_gives bytes w.opens id len e) in
          ⊎_elim
          (λ (far : 64 < len). is_long len b far (long_refused len b far))
          (λ (short : len ≤ 64). is_shown len b short (sheet_shown len b short))
          (lt_or_ge 64 len)

  -- 16 is not 17
  apart : {P : Type 0} → bar_sheet bytes id ≡ Err unknown_bar → bar_sheet bytes id ≡ Err bar_too_long → P
  apart a b = let z : ◌≡◌ {A = ℕ} 16 17 = ap (λ (x : Refusal). (numbers x).kind) (refuse_same (sym a ∙ b)) in absurd (omega arith)

  unknown_gives : bar_sheet bytes id ≡ Err unknown_bar → (len : ℕ) → Bar l id len → ⊥
  unknown_gives e = go outcome
    where
      go : Outcome → (len : ℕ) → Bar l id len → ⊥
      go (is_unknown no_bar r) = no_bar
      go (is_long len b far r) = apart e r
      go (is_shown len b short r) = ok_refuse (sym r ∙ e)

  unknown_from : ((len : ℕ) → Bar l id len → ⊥) → bar_sheet bytes id ≡ Err unknown_bar
  unknown_from no_bar = go outcome
    where
      go : Outcome → bar_sheet bytes id ≡ Err unknown_bar
      go (is_unknown _ r) = r
      go (is_long len b far r) = absurd (no_bar len b)
      go (is_shown len b short r) = absurd (no_bar len b)

  long_gives : bar_sheet bytes id ≡ Err bar_too_long → (len : ℕ) × Bar l id len × (64 < len)
  long_gives e = go outcome
    where
      go : Outcome → (len : ℕ) × Bar l id len × (64 < len)
      go (is_unknown no_bar r) = apart r e
      go (is_long len b far r) = (len, b, far)
      go (is_shown len b short r) = ok_refuse (sym r ∙ e)

  no_other : (x : Refusal) → bar_sheet bytes id ≡ Err x → (x ≡ unknown_bar) ⊎ (x ≡ bar_too_long)
  no_other x e = go outcome
    where
      go : Outcome → (x ≡ unknown_bar) ⊎ (x ≡ bar_too_long)
      go (is_unknown no_bar r) = inl (refuse_same (sym e ∙ r))
      go (is_long len b far r) = inr (refuse_same (sym e ∙ r))
      go (is_shown len b short r) = ok_refuse (sym r ∙ e)

  -- the sheet shown is the bar on paper
  paper : (len : ℕ) → Bar l id len → len ≤ 64 → OnPaper id len (given l).terms (sheet id len (given l).terms)
  paper len b short = shown_paper bytes id w.opens (bar_there len b) short w.decoded

  shown_gives : (text : List ℕ) → bar_sheet bytes id ≡ Ok text
      → (len : ℕ) × Bar l id len × (len ≤ 64) × OnPaper id len (given l).terms text
  shown_gives text e = go outcome
    where
      go : Outcome → (len : ℕ) × Bar l id len × (len ≤ 64) × OnPaper id len (given l).terms text
      go (is_unknown no_bar r) = ok_refuse (sym e ∙ r)
      go (is_long len b far r) = ok_refuse (sym e ∙ r)
      go (is_shown len b short r) = (len, b, short, subst (OnPaper id len (given l).terms) (ok_same (sym r ∙ e)) (paper len b short))

  shown_from : (text : List ℕ) → (len : ℕ) × Bar l id len × (len ≤ 64) × OnPaper id len (given l).terms text
      → bar_sheet bytes id ≡ Ok text
  shown_from text (len, b, short, p) =
      sheet_shown len b short ∙ ap Ok (one_sheet id len (given l).terms (sheet id len (given l).terms) text (paper len b short) p)

  shows : ShowsWhatWasHandedIn l bytes id
  shows = record {
    shown = λ text. (shown_gives text, shown_from text);
    computed = sheet_shown;
    unknown = (unknown_gives, unknown_from);
    too_long = (λ e. let (len, b, far) = long_gives e in (len, b, omega arith), λ (len, b, far). long_refused len b far);
    no_other = no_other;
    hits = hits_stand l fine id;
  }

pub sheet_of_what_was_written : SheetOfWhatWasWritten
sheet_of_what_was_written l room bytes typed e id =
    shows l (accepted_gives l room e).lists bytes (opened l bytes (reads_back l room bytes typed e).back) id

-- of each bar handed in of at most 64 steps, the sheet computed is the bar on paper
pub paper_of_what_was_written : (l : Lists) (room : ℕ) (bytes : List ℕ) → Typed l → write l room ≡ Ok bytes
    → (id len : ℕ) → Bar l id len → len ≤ 64 → OnPaper id len (given l).terms (sheet id len (given l).terms)
paper_of_what_was_written l room bytes typed e id len b short =
    paper l (accepted_gives l room e).lists bytes (opened l bytes (reads_back l room bytes typed e).back) id len b short
