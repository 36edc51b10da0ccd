-- From what the importer, the writer and the search answer to the claim about a call that imports, writes and then asks.
-- Assumes nothing.
use Rattle.claim_import.specs.Phrases.{import_asked, not_imported, WithoutRefusal, BarsListed, ImportedExactly}
use Rattle.claim_joint.specs.Demand.{answered}
use Rattle.std.specs.Prelude.{Err, Ok}
use mathlib.Core.Path.{◌≡◌, refl, sym, ap, subst, ◌∙◌}
use mathlib.Core.List.{List}
use Prim.Native.Nat.{ℕ, ◌≤◌}
use native.Mathlib.Omega.{arith}
use lib.ListN.{length, take}
use Rattle.segment.specs.Results.{Answer}
use Rattle.segment.specs.Texts.{names}
use Rattle.segment.specs.declared.refusal.Refusal.{Refusal}
use Rattle.segment.specs.declared.replies.ListTotals.{ListTotals}
use Rattle.segment.proofs.Binds.{refuse_ok, ok_same}
use Rattle.segment.proofs.Shapes.{names_count}
use Rattle.midi_read.specs.declared.track.Hit.{Hit}
use Rattle.midi_bars.specs.Loudness.{AllLists, beside}
use Rattle.midi_bars.specs.Imports.{roomy_beside, import_into, import_answer, import_left}
use Rattle.midi_read.specs.Tracks.{WithinRules}
use Rattle.midi_bars.specs.Claims.{HoldsFile}
use Rattle.midi_bars.specs.LoudClaims.{HoldsLoudness}
use Rattle.midi_bars.proofs.Words.{file_held, import_accepted, read_exactly}
use Rattle.midi_bars.proofs.Loud.{loudness_held, without, with_all}
use Rattle.midi_import.specs.Promise.{BarsImported}
use Rattle.claim_joint.specs.declared.ask.Asked.{Asked}
use Rattle.claim_joint.specs.declared.ask.Question.TheVariants as question
use Rattle.claim_joint.specs.Promise.{WrittenThenAsked}
use Rattle.claim_import.specs.Claims.{FrontsHeld, FrontsLoud}
use Rattle.claim_import.specs.Promise.{totals_of, ImportedThenAsked}
use Rattle.claim_import.specs.Steps.{fronts, HasFronts}
use Rattle.claim_import.proofs.Notes.{bars_agree}
use Rattle.claim_import.proofs.Fronts.{read_by, room_by, read_into, fronts_are, has_fronts, loud_front}

-- ---- what the importer's reply says of the definition's answer

-- what holds of the totals of the lists that are read, and of the buffers that have them, holds of the reply and of what is left
by_reply : (P : ListTotals → AllLists → Type 0) (r : Answer AllLists) (b : AllLists)
    → ((l : AllLists) → r ≡ Ok l → P (totals_of l.lists) (import_left (Ok l) b))
    → {t : ListTotals} {b' : AllLists} → Ok t ≡ import_answer r → b' ≡ import_left r b → P t b'
by_reply P (Ok l) b h {t} {b'} e f =
    let same : totals_of l.lists ≡ t = cc in
    subst (λ q. P q b') same (subst (P (totals_of l.lists)) (sym f) (h l refl))
by_reply P (Err x) b h e f = let z : ◌≡◌ {A = ℕ} 0 1 = cc in absurd (omega arith)

refused_if : (r : Answer AllLists) {x : Refusal} → Err x ≡ import_answer r → r ≡ Err x
refused_if (Ok l) e = let z : ◌≡◌ {A = ℕ} 0 1 = cc in absurd (omega arith)
refused_if (Err y) e = cc

same_refusal : {x y : Refusal} → ◌≡◌ {A = Answer AllLists} (Err x) (Err y) → x ≡ y
same_refusal e = cc

-- ---- imported exactly when the file is within the rules and its lists fit

module _ (steps quarter : ℕ) (file : List ℕ) (b : AllLists) where
  accepts_so : {l : AllLists} {t : ListTotals} {a : Answer Asked} → import_into steps quarter file b ≡ Ok l
      → ImportedExactly steps quarter file b (import_asked t a)
  accepts_so {l} {t} {a} read = (
    λ _. (
      (read_exactly steps quarter file).0 (l.lists, without steps quarter file l (read_by steps quarter file b l read)),
      λ m e.
          let same : l ≡ m = ok_same (sym (read_by steps quarter file b l read) ∙ e) in
          subst (λ q. roomy_beside q b ≡ Ok tt) same (room_by steps quarter file b l read),
    ),
    λ _. (t, a, refl),
  )

  refuses_so : {x : Refusal} → import_into steps quarter file b ≡ Err x → ImportedExactly steps quarter file b (not_imported x)
  refuses_so {x} is = (
    λ (t, a, e). let z : ◌≡◌ {A = ℕ} 0 1 = cc in absurd (omega arith),
    λ (within, room). let (m, f) = (read_exactly steps quarter file).1 within in
        let (l, e) = with_all steps quarter file m f in
        refuse_ok (sym is ∙ read_into steps quarter file b l e (room l e)),
  )

-- ---- the claim, where the lists are written and asked

module _ (steps quarter : ℕ) (file : List ℕ) (b : AllLists) (out name ends found : List ℕ) (one : 1 ≤ steps) {l : AllLists} {a : Answer Asked}
    {out' found' : List ℕ} (w : WrittenThenAsked l.lists out question.Phrase name ends name found a out' found') where
  bars_told : (t : ListTotals) → WithoutRefusal steps quarter file b out name ends l
      → (hs : List Hit) × WithinRules steps quarter file hs
      × BarsListed steps quarter file hs (names 0 ends name) found (import_asked t a) found'
  bars_told t good =
      let read = without steps quarter file l good.read in
      let (hs, e, held) = file_held steps quarter file l.lists one read in
      let fine = import_accepted steps quarter file l.lists one read in
      let (n, c, is) = w.demand.accepts.1 (record { lists = fine; room_enough = good.room_to_write }) in
      let listed = w.demand.lists n c is good.proper in
      let some : 1 ≤ length (names 0 ends name) = rw (names_count 0 ends name) good.proper.enough in
      let agree = bars_agree steps quarter file hs l.lists held fine.shape.documents (names 0 ends name) some in (
        hs,
        e,
        record {
          there_are = let (ids, meet) = listed.there_are in (ids, (agree ids).0 meet);
          answer = λ ids play h.
              let (told, filled) = listed.answer ids ((agree ids).1 play) h in
              ((t, n, ap (import_asked t) (is ∙ ap (answered n) told)), filled);
        },
      )

  -- the lists themselves, at the fronts
  promised : import_into steps quarter file b ≡ Ok l
      → ImportedThenAsked steps quarter file b out name ends found (import_asked (totals_of l.lists) a) (import_left (Ok l) b)
      out' found'
  promised read = record {
    accepts = accepts_so steps quarter file b read;
    claim = λ m good.
        let same : m ≡ l = ok_same (sym (read_into steps quarter file b m good.read good.room) ∙ read) in
        bars_told (totals_of l.lists) (subst (λ q. WithoutRefusal steps quarter file b out name ends q) same good);
    refused = λ x f. refuse_ok (sym f ∙ read);
    imported = λ m f.
        let same : l ≡ m = ok_same (sym read ∙ f) in (
          a,
          ap (λ q. import_asked (totals_of q.lists) a) same,
          ap (λ q. import_left (Ok q) b) same,
          subst (λ q. WrittenThenAsked q.lists out question.Phrase name ends name found a out' found') same w,
        );
  }

-- ---- the promise, from the importer's

module _ (steps quarter : ℕ) (file : List ℕ) (b : AllLists) (one : 1 ≤ steps) {r : (Answer ListTotals)} {b' : AllLists}
    (told : BarsImported steps quarter file b r b') where
  -- the buffers have as many places as the reply says
  pub fronts_there : {t : ListTotals} → r ≡ Ok t → HasFronts t b'.lists
  fronts_there e =
      by_reply (λ t q. HasFronts t q.lists) (import_into steps quarter file b) b
      (λ l read. has_fronts steps quarter file b.lists l.lists one
      (without steps quarter file l (read_by steps quarter file b l read))) (sym e ∙ told.reply) told.left

  module _ (out name ends found : List ℕ) where
    -- the lists at the fronts were written and asked
    pub asked_promise : {t : ListTotals} → r ≡ Ok t → {a : Answer Asked} {out' found' : List ℕ}
        → WrittenThenAsked (fronts t b'.lists) out question.Phrase name ends name found a out' found'
        → ImportedThenAsked steps quarter file b out name ends found (import_asked t a) b' out' found'
    asked_promise e {a} {out'} {found'} =
        by_reply (λ t q.
        WrittenThenAsked (fronts t q.lists) out question.Phrase name ends name found a out' found'
        → ImportedThenAsked steps quarter file b out name ends found (import_asked t a) q out' found')
        (import_into steps quarter file b) b (λ l read w.
        promised steps quarter file b out name ends found one
        (subst (λ m. WrittenThenAsked m out question.Phrase name ends name found a out' found')
        (fronts_are steps quarter file b.lists l.lists one (without steps quarter file l (read_by steps quarter file b l read)))
        w) read)
        (sym e ∙ told.reply) told.left

    -- the importer refused
    pub refused_promise : {x : Refusal} → r ≡ Err x
        → ImportedThenAsked steps quarter file b out name ends found (not_imported x) b' out found
    refused_promise e =
        let is = refused_if (import_into steps quarter file b) (sym e ∙ told.reply) in
        record {
          accepts = refuses_so steps quarter file b is;
          claim = λ l good. refuse_ok (sym is ∙ read_into steps quarter file b l good.read good.room);
          refused = λ y f. (ap not_imported (same_refusal (sym is ∙ f)), told.left ∙ ap (λ q. import_left q b) is, refl, refl);
          imported = λ l f. refuse_ok (sym is ∙ f);
        }

-- ---- the lists that the call fills

pub fronts_held : FrontsHeld
fronts_held steps quarter file b b' t one told =
    by_reply (λ t q. (hs : List Hit) × WithinRules steps quarter file hs × HoldsFile steps quarter file hs (fronts t q.lists))
    (import_into steps quarter file b) b (λ l read.
    let e = without steps quarter file l (read_by steps quarter file b l read) in
    subst (λ m. (hs : List Hit) × WithinRules steps quarter file hs × HoldsFile steps quarter file hs m)
    (sym (fronts_are steps quarter file b.lists l.lists one e)) (file_held steps quarter file l.lists one e))
    told.reply told.left

pub fronts_loud : FrontsLoud
fronts_loud steps quarter file b b' t one told =
    by_reply (λ t q. (hs : List Hit) × WithinRules steps quarter file hs
    × HoldsLoudness steps quarter file hs (beside (fronts t q.lists) (take t.positions q.velocities)))
    (import_into steps quarter file b) b (λ l read.
    let e = read_by steps quarter file b l read in
    subst (λ m. (hs : List Hit) × WithinRules steps quarter file hs × HoldsLoudness steps quarter file hs m)
    (sym (loud_front steps quarter file b l one e)) (loudness_held steps quarter file l one e))
    told.reply told.left
