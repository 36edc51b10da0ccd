-- The whole sheet in the lent buffer: its length, the reply, and what the buffer holds.
-- Assumes nothing.
use Rattle.std.specs.Prelude.{Err, None, Ok, Option, Some}
use mathlib.Core.Path.{◌≡◌, refl, sym, ap, ◌∙◌}
use mathlib.Core.Bool.{Bool, true, false}
use mathlib.Core.List.{List, [], ◌∷◌, ◌++◌}
use Prim.Native.Nat.{ℕ, zero, suc, ◌+◌, ◌*◌, ◌≤◌, ◌<◌}
use native.Mathlib.Nat.{zero-add}
use native.Mathlib.Omega.{arith}
use lib.Dec.{leb}
use lib.ListN.{length, replicate, length-append, length-replicate}
use borrow.Author.Tests.{le-leb, lt-leb, leb-true}
use Rattle.common.specs.Stores.{Stored}
use Rattle.common.proofs.Sets.{sets_front}
use Rattle.common.proofs.Stores.{stored_append, stored_length}
use Rattle.segment.specs.declared.refusal.Refusal.{Refusal}
use Rattle.segment.specs.Refusals.{no_room, bar_too_long}
use Rattle.segment.specs.Results.{Answer, ◌>>=◌, check}
use Rattle.segment.specs.Records.{Term}
use Rattle.segment.specs.Metadata.{length_of}
use Rattle.segment.specs.Opening.{open_segment}
use Rattle.segment.specs.Contents.{decode_all}
use Rattle.segment.proofs.Accepted.{check_gives}
use Rattle.segment.proofs.Binds.{ok_same, refuse_ok}
use Rattle.read_open.specs.declared.header.Layout.{Layout}
use Rattle.read_open.specs.Steps.{cut}
use Rattle.read_open.specs.Opened.{Opens}
use Rattle.read_cursors.proofs.DocumentsHeld.{held_rise, known_small}
use Rattle.calls.specs.Listing.{column}
use Rattle.calls.specs.Sheet.{heading, sheet, known_bar, bar_sheet, sheet_into}
use Rattle.calls.specs.Replies.{count_of}
use Rattle.show_columns.proofs.Columns.{column_length}
use Rattle.show_sheet.specs.declared.bar.Bar.{Bar}
use Rattle.show_sheet.specs.Steps.{documents_in, paper_length, bar_found, Drawable, entry_in, line_in, lines_in, text_in, RoomFor}
use Rattle.show_sheet.specs.Steps.{into, sheet_in, SheetDrawn}
use Rattle.show_sheet.specs.Promise.{SheetAnswered}
use Rattle.show_sheet.proofs.Entries.{measured_most}
use Rattle.show_sheet.proofs.Lines.{drawn, entries_drawn, measured_decoded, measured_length}

-- ---- the first line

pub heading_length : (id len : ℕ) → id < 10000000000 → len < 10000000000 → length (heading id len) ≡ 81
unfolding heading
heading_length id len h k =
    simp (length-append, column_length id h, column_length len k, length-replicate) refl

pub heading_stored : (id len : ℕ) {out o₁ o₂ o₃ o₄ : List ℕ} {n₁ n₂ n₃ n₄ : ℕ} → Stored (column id) 0 out n₁ o₁
    → Stored (column len) n₁ o₁ n₂ o₂ → Stored (replicate 60 32) n₂ o₂ n₃ o₃ → Stored (10 ∷ []) n₃ o₃ n₄ o₄
    → Stored (heading id len) 0 out n₄ o₄
unfolding heading
heading_stored id len a b c d = stored_append (stored_append (stored_append a b) c) d

pub drawable_wide : (bytes : List ℕ) (l : Layout) (bar : Bar) → Drawable bytes l bar → length (heading bar.id.0 bar.len) ≡ 81
drawable_wide bytes l bar p =
    let small = known_small 0 (documents_in bytes l) (held_rise l.documents None (cut bytes l).metadata) bar.id.0 p.known in
    heading_length bar.id.0 bar.len (omega arith) (omega (arith, p.short))

-- ---- how long it can be

abbrev Most : ℕ → Answer (List ℕ) → Type 0
Most n r = (k : ℕ) → Ok k ≡ count_of r → k ≤ n

behind_most : (n m : ℕ) (a b : Answer (List ℕ)) → Most n a → Most m b → Most (n + m) (a >>= λ line. b >>= λ more. Ok (line ++ more))
behind_most n m (Ok x) (Ok y) f g k e =
    let many : k ≡ length (x ++ y) = cc in
    omega (arith, length-append x y, f (length x) refl, g (length y) refl)
behind_most n m (Ok x) (Err y) f g k e = let z : ◌≡◌ {A = ℕ} 0 1 = cc in absurd (omega arith)
behind_most n m (Err x) b f g k e = let z : ◌≡◌ {A = ℕ} 0 1 = cc in absurd (omega arith)

lines_most : (bytes : List ℕ) (l : Layout) (bar : Bar) → Drawable bytes l bar → (n i : ℕ) → Most (117 * n) (lines_in bytes l bar n i)
unfolding lines_in
lines_most bytes l bar p zero i k e = let none_there : k ≡ 0 = cc in omega arith
lines_most bytes l bar p (suc n) i k e =
    let most = behind_most 117 (117 * n) (line_in (documents_in bytes l) bar (entry_in bytes l i)) (lines_in bytes l bar n (suc i))
    (λ j f. measured_most bytes l bar i p f) (lines_most bytes l bar p n (suc i)) k e in
    omega arith

pub sheet_most : (bytes : List ℕ) (l : Layout) (bar : Bar) → Drawable bytes l bar → {k : ℕ}
    → Ok k ≡ count_of (lines_in bytes l bar l.terms 0) → k ≤ 117 * l.terms
sheet_most bytes l bar p {k} e = lines_most bytes l bar p l.terms 0 k e

-- ---- with room, and without

module _ (first : List ℕ) (lines : Answer (List ℕ)) where
  abbrev whole : Answer (List ℕ)
  whole = lines >>= λ more. Ok (first ++ more)

  module _ {k : ℕ} (wide : length first ≡ 81) (e : Ok k ≡ count_of lines) where
    whole_short : (room : ℕ) → room < 81 + k → into whole room ≡ Err (no_room 1 (81 + k))
    whole_short room h = by lines e
      where
        by : (r : Answer (List ℕ)) → Ok k ≡ count_of r → into (r >>= λ more. Ok (first ++ more)) room ≡ Err (no_room 1 (81 + k))
        by (Ok a) e =
            let many : k ≡ length a = cc in
            let size : length (first ++ a) ≡ 81 + k = omega (arith, length-append first a) in
            rw (size, lt-leb (81 + k) room h)
        by (Err y) e = let z : ◌≡◌ {A = ℕ} 0 1 = cc in absurd (omega arith)

    whole_fits : (room : ℕ) → 81 + k ≤ room → into whole room ≡ Ok (first ++ text_in lines)
    whole_fits room h = by lines e
      where
        by : (r : Answer (List ℕ)) → Ok k ≡ count_of r → into (r >>= λ more. Ok (first ++ more)) room ≡ Ok (first ++ text_in r)
        by (Ok a) e =
            let many : k ≡ length a = cc in
            let fits : length (first ++ a) ≤ room = omega (arith, length-append first a) in
            rw (le-leb (length (first ++ a)) room fits)
        by (Err y) e = let z : ◌≡◌ {A = ℕ} 0 1 = cc in absurd (omega arith)

    whole_many : length (first ++ text_in lines) ≡ 81 + k
    whole_many = by lines e
      where
        by : (r : Answer (List ℕ)) → Ok k ≡ count_of r → length (first ++ text_in r) ≡ 81 + k
        by (Ok a) e = let many : k ≡ length a = cc in omega (arith, length-append first a)
        by (Err y) e = let z : ◌≡◌ {A = ℕ} 0 1 = cc in absurd (omega arith)

module _ (bytes : List ℕ) (l : Layout) (bar : Bar) (out : List ℕ) where
  abbrev first : List ℕ
  first = heading bar.id.0 bar.len

  abbrev lines : Answer (List ℕ)
  lines = lines_in bytes l bar l.terms 0

  module _ {k : ℕ} (wide : length first ≡ 81) (e : Ok k ≡ count_of lines) where
    pub drawn_short : length out < 81 + k → SheetDrawn bytes l bar out (Err (no_room 1 (81 + k))) out
    drawn_short h = let r = whole_short first lines wide e (length out) h in record { reply = rw r; left = rw r }

    pub lines_fit : {o₁ : List ℕ} {n₁ : ℕ} → 81 + k ≤ length out → Stored first 0 out n₁ o₁ → RoomFor lines o₁ n₁
    lines_fit h a = record {
      decoded = measured_decoded lines e;
      room = omega (arith, a.past, stored_length a, measured_length lines e);
    }

    pub drawn_fits : {o₁ o₂ : List ℕ} {n₁ n₂ : ℕ} → 81 + k ≤ length out → Stored first 0 out n₁ o₁ → Stored (text_in lines) n₁ o₁ n₂ o₂
        → SheetDrawn bytes l bar out (Ok n₂) o₂
    drawn_fits {o₂ = o₂} {n₂ = n₂} h a b =
        let r = whole_fits first lines wide e (length out) h in
        let s = stored_append a b in
        let all : n₂ ≡ length (first ++ text_in lines) = omega (arith, s.past) in
        record {
          reply = rw r (ap Ok all);
          left = rw r (s.left ∙ sets_front out (first ++ text_in lines) (omega (arith, whole_many first lines wide e)));
        }

-- ---- the call

-- the bar that was found
bar_is : (id : ℕ) (r : Answer ℕ) {bar : Bar} → Ok bar ≡ bar_found id r → (r ≡ Ok bar.len) × (bar.id.0 ≡ id)
bar_is id (Ok n) {bar} e =
    let is : bar ≡ record { id = record { 0 = id }; len = n } = cc in
    (ap Ok (sym (ap (λ (b : Bar). b.len) is)), ap (λ (b : Bar). b.id.0) is)
bar_is id (Err x) e = let z : ◌≡◌ {A = ℕ} 0 1 = cc in absurd (omega arith)

bar_refused : (id : ℕ) (r : Answer ℕ) {x : Refusal} → Err x ≡ bar_found id r → r ≡ Err x
bar_refused id (Ok n) e = let z : ◌≡◌ {A = ℕ} 0 1 = cc in absurd (omega arith)
bar_refused id (Err y) e = cc

-- is known, and short
paper_is : (o : Option ℕ) {n : ℕ} → (known_bar o >>= λ len. check (leb len 64) bar_too_long >>= λ _. Ok len) ≡ Ok n
    → (o ≡ Some n) × (n ≤ 64)
paper_is None e = refuse_ok e
paper_is (Some m) {n} e =
    let (t, f) = check_gives (leb m 64) bar_too_long (λ _. Ok m) e in
    (ap Some (ok_same f), omega (arith, leb-true m 64 t, ok_same f))

-- what comes after the two tests
past_tests : (o : Option ℕ) (f : ℕ → Answer (List ℕ))
    → (known_bar o >>= λ len. check (leb len 64) bar_too_long >>= λ _. f len)
    ≡ ((known_bar o >>= λ len. check (leb len 64) bar_too_long >>= λ _. Ok len) >>= f)
past_tests None f = refl
past_tests (Some n) f = by (leb n 64)
  where
    by : (t : Bool) → (check t bar_too_long >>= λ _. f n) ≡ ((check t bar_too_long >>= λ _. Ok n) >>= f)
    by true = refl
    by false = refl

-- the first line in front of what the lists decode to
headed : (bar : Bar) (r : Answer (List Term)) {lines : Answer (List ℕ)} → drawn bar r ≡ lines
    → (r >>= λ ts. Ok (sheet bar.id.0 bar.len ts)) ≡ (lines >>= λ more. Ok (heading bar.id.0 bar.len ++ more))
unfolding sheet
headed bar (Ok ts) e = rw (← e)
headed bar (Err x) e = rw (← e)

module _ (bytes : List ℕ) (id : ℕ) (out : List ℕ) where
  refused : {x : Refusal} → bar_sheet bytes id ≡ Err x → SheetAnswered bytes id out (Err x) out
  unfolding sheet_into
  refused e = record { reply = rw e; left = rw e }

  pub sheet_shut : {x : Refusal} → open_segment bytes ≡ Err x → SheetAnswered bytes id out (Err x) out
  unfolding bar_sheet
  sheet_shut e = refused (rw e)

  module _ (l : Layout) (opens : Opens bytes (Ok l)) where
    abbrev tested : Answer ℕ
    tested = paper_length (documents_in bytes l) id

    -- the call, past its opening
    opened_sheet : bar_sheet bytes id
        ≡ (tested >>= λ len. decode_all (documents_in bytes l) opens.0.entries >>= λ ts. Ok (sheet id len ts))
    unfolding bar_sheet
    opened_sheet =
        rw (opens.1, ← opens.2.documents)
        (past_tests (length_of (documents_in bytes l) id)
        (λ len. decode_all (documents_in bytes l) opens.0.entries >>= λ ts. Ok (sheet id len ts)))

    pub sheet_no_bar : {x : Refusal} → Err x ≡ bar_found id tested → SheetAnswered bytes id out (Err x) out
    sheet_no_bar e =
        refused (opened_sheet ∙ ap (λ (r : Answer ℕ). r >>= λ len. decode_all (documents_in bytes l) opens.0.entries >>= λ ts.
        Ok (sheet id len ts)) (bar_refused id tested e))

    module _ {bar : Bar} (e : Ok bar ≡ bar_found id tested) where
      -- the lines of the bar's sounds
      lines_are : drawn bar (decode_all (documents_in bytes l) opens.0.entries) ≡ lines_in bytes l bar l.terms 0
      lines_are =
          let o = opens.2 in
          entries_drawn bytes l bar opens.0.entries 0 (λ i h. rw (zero-add i) (o.entry i (omega (arith, o.term_count))))
          ∙ ap (λ n. lines_in bytes l bar n 0) o.term_count

      sheet_is : bar_sheet bytes id ≡ sheet_in bytes l bar
      sheet_is =
          let (is, same) = bar_is id tested e in
          opened_sheet
          ∙ ap (λ (r : Answer ℕ). r >>= λ len. decode_all (documents_in bytes l) opens.0.entries >>= λ ts. Ok (sheet id len ts)) is
          ∙ ap (λ (i : ℕ). decode_all (documents_in bytes l) opens.0.entries >>= λ ts. Ok (sheet i bar.len ts)) (sym same)
          ∙ headed bar (decode_all (documents_in bytes l) opens.0.entries) lines_are

      pub sheet_drawable : {r : Answer ℕ} {out' : List ℕ} → SheetDrawn bytes l bar out r out' → SheetAnswered bytes id out r out'
      unfolding sheet_into
      sheet_drawable d = record { reply = rw sheet_is d.reply; left = rw sheet_is d.left }
