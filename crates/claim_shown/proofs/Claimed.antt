-- From what the writer and the sheet answer to the claim about a call that writes and then shows.
-- Assumes nothing.
use Rattle.std.specs.Prelude.{Err, Ok}
use mathlib.Core.Path.{◌≡◌, refl, sym, ap, ◌∙◌, subst}
use mathlib.Core.List.{List}
use mathlib.Core.Logic.{⊎_elim, inl, inr}
use Prim.Native.Nat.{ℕ, ◌≤◌, ◌<◌}
use native.Mathlib.Omega.{arith}
use lib.ListN.{length, take}
use Rattle.common.proofs.Loops.{lt_or_ge}
use Rattle.segment.specs.declared.refusal.Refusal.{Refusal}
use Rattle.segment.specs.Refusals.{no_room}
use Rattle.segment.specs.Results.{Answer}
use Rattle.calls.specs.Given.{Lists, given}
use Rattle.calls.specs.Writing.{write}
use Rattle.calls.specs.Sheet.{sheet, bar_sheet, sheet_into}
use Rattle.calls.specs.Replies.{fronted, filled, count_of, length_of_written}
use Rattle.roundtrip.specs.Claims.{Typed}
use Rattle.write_segment.specs.Promise.{Wrote}
use Rattle.show_sheet.specs.Promise.{SheetAnswered}
use Rattle.claim_joint.proofs.Claimed.{WroteBytes, asked_bytes}
use Rattle.claim_sheet.proofs.Refusing.{refuses_exactly, no_room_last, room_enough}
use Rattle.claim_sheet.proofs.Shown.{sheet_of_what_was_written, paper_of_what_was_written}
use Rattle.claim_shown.specs.Promise.{PutOn, BarShown}

-- ---- what the sheet's reply and the lent sheet are, by what the definition answers

module _ {bytes : List ℕ} {id : ℕ} {paper : List ℕ} {c : (Answer ℕ)} {paper' : List ℕ} (a : SheetAnswered bytes id paper c paper') where
  fits : {text : List ℕ} → sheet_into bytes id (length paper) ≡ Ok text
      → (c ≡ Ok (length text)) × (paper' ≡ fronted text paper)
  fits e = (a.reply ∙ ap count_of e, a.left ∙ ap (λ (r : Answer (List ℕ)). filled (λ text. text) r paper) e)

  refused : {x : Refusal} → sheet_into bytes id (length paper) ≡ Err x → (c ≡ Err x) × (paper' ≡ paper)
  refused e = (a.reply ∙ ap count_of e, a.left ∙ ap (λ (r : Answer (List ℕ)). filled (λ text. text) r paper) e)

  no_sheet : {x : Refusal} → bar_sheet bytes id ≡ Err x → (c ≡ Err x) × (paper' ≡ paper)
  no_sheet {x} e = refused ((no_room_last bytes id (length paper) x).1 (inl ((refuses_exactly bytes id x).0 e)))

  put_on : (text : List ℕ) → bar_sheet bytes id ≡ Ok text → PutOn text paper c paper'
  put_on text e = ⊎_elim
      (λ (far : length paper < length text).
      let r = refused ((no_room_last bytes id (length paper) (no_room 1 (length text))).1 (inr (text, e, far, refl))) in
      inr (far, r.0, r.1))
      (λ (room : length text ≤ length paper).
      let r = fits ((room_enough bytes id (length paper) text).1 (e, room)) in
      inl (room, r.0, r.1))
      (lt_or_ge (length paper) (length text))

-- ---- written and shown

module _ (l : Lists) (out : List ℕ) (typed : Typed l) {n : ℕ} {out' : List ℕ} (w : WroteBytes l out n out') where
  shown_of : (id : ℕ) {paper : List ℕ} {c : (Answer ℕ)} {paper' : List ℕ} → SheetAnswered w.bytes id paper c paper'
      → BarShown l id paper c paper'
  shown_of id a =
      let s = sheet_of_what_was_written l (length out) w.bytes typed w.answer id in
      record {
        shown = λ len b short. (
          sheet id len (given l).terms,
          paper_of_what_was_written l (length out) w.bytes typed w.answer id len b short,
          put_on a (sheet id len (given l).terms) (s.computed len b short),
        );
        unknown = λ none. no_sheet a (s.unknown.1 none);
        too_long = λ len b far. no_sheet a (s.too_long.1 (len, b, far));
      }

  pub shown_claim : (id : ℕ) {paper : List ℕ} {c : (Answer ℕ)} {paper' : List ℕ} → SheetAnswered (take n out') id paper c paper'
      → BarShown l id paper c paper'
  shown_claim id {paper} {c} {paper'} a =
      shown_of id (subst (λ (bytes : List ℕ). SheetAnswered bytes id paper c paper') (asked_bytes l out typed w) a)

-- ---- not written

left_alone : (r : Answer (List ℕ)) (out : List ℕ) {x : Refusal} → length_of_written r ≡ Err x → filled (λ xs. xs) r out ≡ out
left_alone (Ok bytes) out e = let z : ◌≡◌ {A = ℕ} 0 1 = cc in absurd (omega arith)
left_alone (Err y) out e = refl

pub out_alone : (l : Lists) (out : List ℕ) {w : (Answer ℕ)} {out' : List ℕ} {x : Refusal} → Wrote l out w out' → w ≡ Err x
    → out' ≡ out
out_alone l out wrote e = wrote.left ∙ left_alone (write l (length out)) out (sym wrote.reply ∙ e)
