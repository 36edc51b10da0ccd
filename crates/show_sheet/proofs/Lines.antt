-- The lines of a sheet one entry after another: measured, and stored.
-- Assumes nothing.
use Rattle.std.specs.Prelude.{Err, Ok}
use mathlib.Core.Path.{◌≡◌, refl, sym, ap, ◌∙◌}
use mathlib.Core.List.{List, [], ◌∷◌, ◌++◌}
use Prim.Native.Nat.{ℕ, suc, ◌+◌, ◌-◌, ◌≤◌, ◌<◌}
use native.Mathlib.Nat.{add-zero}
use native.Mathlib.Numerals.{add-one}
use native.Mathlib.Omega.{arith}
use lib.ListN.{length, get_or, length-append}
use Rattle.common.specs.Stores.{Stored}
use Rattle.common.proofs.Loops.{left_suc, left_none}
use Rattle.common.proofs.Stores.{ToStore, ToStoreParts, to_room, to_next, to_end}
use Rattle.segment.specs.declared.refusal.Refusal.{Refusal}
use Rattle.segment.specs.Results.{Answer, ◌>>=◌}
use Rattle.segment.specs.Records.{Posting, Term, Entry}
use Rattle.segment.specs.Postings.{decode}
use Rattle.segment.specs.Contents.{decode_all}
use Rattle.segment.proofs.Binds.{refuse_ok}
use Rattle.read_open.specs.declared.header.Layout.{Layout}
use Rattle.read_open.specs.Opened.{no_entry}
use Rattle.calls.specs.Sheet.{sound_lines}
use Rattle.calls.specs.Replies.{count_of}
use Rattle.show_sheet.specs.declared.bar.Bar.{Bar}
use Rattle.show_sheet.specs.Steps.{documents_in, entry_in, line_in, lines_in, text_in, Decoded, RoomFor}

-- ---- what the directory's lists decode to, drawn, is the entries' lines

abbrev pub drawn : Bar → Answer (List Term) → Answer (List ℕ)
drawn bar r = r >>= λ ts. Ok (sound_lines bar.id.0 bar.len ts)

-- an entry's line and the lines after it
abbrev behind : Answer (List ℕ) → Answer (List ℕ) → Answer (List ℕ)
behind line lines = line >>= λ a. lines >>= λ more. Ok (a ++ more)

module _ (bytes : List ℕ) (l : Layout) (bar : Bar) where
  first_drawn : (e : Entry) (r : Answer (List Posting)) (more : Answer (List Term)) {lines : Answer (List ℕ)}
      → drawn bar more ≡ lines
      → r ≡ decode (documents_in bytes l) e
      → drawn bar (r >>= λ ps. more >>= λ ts. Ok (record { name = e.name; postings = ps } ∷ ts))
      ≡ behind (line_in (documents_in bytes l) bar e) lines
  unfolding line_in sound_lines
  first_drawn e (Ok ps) (Ok ts) is d = rw (← d, ← is)
  first_drawn e (Ok ps) (Err x) is d = rw (← d, ← is)
  first_drawn e (Err x) more is d = rw (← d)

  pub entries_drawn : (es : List Entry) (k : ℕ) → ((i : ℕ) → i < length es → get_or es i no_entry ≡ entry_in bytes l (k + i))
      → drawn bar (decode_all (documents_in bytes l) es) ≡ lines_in bytes l bar (length es) k
  unfolding decode_all lines_in sound_lines
  entries_drawn [] k h = refl
  entries_drawn (e ∷ es) k h =
      let first : e ≡ entry_in bytes l k = rw (add-zero k) at (h 0 (omega arith)) in
      let later : (i : ℕ) → k + suc i ≡ suc k + i = λ i. omega arith in
      first_drawn e (decode (documents_in bytes l) e) (decode_all (documents_in bytes l) es)
      (entries_drawn es (suc k) (λ i q. h (suc i) (omega arith) ∙ ap (entry_in bytes l) (later i))) refl
      ∙ ap (λ (a : Entry). behind (line_in (documents_in bytes l) bar a) (lines_in bytes l bar (length es) (suc k))) first

  -- ---- one entry after another

  lines_next : (n i : ℕ) → i < n
      → lines_in bytes l bar (n - i) i
      ≡ behind (line_in (documents_in bytes l) bar (entry_in bytes l i)) (lines_in bytes l bar (n - (i + 1)) (i + 1))
  unfolding lines_in
  lines_next n i h = rw (left_suc n i h, add-one i)

  lines_end : (n i : ℕ) → n ≤ i → lines_in bytes l bar (n - i) i ≡ Ok []
  unfolding lines_in
  lines_end n i h = rw (left_none n i h)

-- ---- measured

-- so many bytes and those of the lines that are left
abbrev pub more : ℕ → Answer (List ℕ) → Answer ℕ
more size (Ok text) = Ok (size + length text)
more size (Err x) = Err x

behind_more : (size : ℕ) (line lines : Answer (List ℕ)) {k : ℕ} → Ok k ≡ count_of line
    → more size (behind line lines) ≡ more (size + k) lines
behind_more size (Ok a) (Ok b) {k} e =
    let many : k ≡ length a = cc in
    let sum : size + length (a ++ b) ≡ size + k + length b = omega (arith, length-append a b) in
    ap Ok sum
behind_more size (Ok a) (Err x) e = refl
behind_more size (Err x) lines e = let z : ◌≡◌ {A = ℕ} 0 1 = cc in absurd (omega arith)

behind_stops : (size : ℕ) (line lines : Answer (List ℕ)) {x : Refusal} → Err x ≡ count_of line
    → more size (behind line lines) ≡ Err x
behind_stops size (Ok a) lines e = let z : ◌≡◌ {A = ℕ} 0 1 = cc in absurd (omega arith)
behind_stops size (Err x) lines e = sym e

module _ (bytes : List ℕ) (l : Layout) (bar : Bar) (n i size : ℕ) {whole : Answer ℕ}
    (inv : more size (lines_in bytes l bar (n - i) i) ≡ whole) where
  abbrev here : Answer (List ℕ)
  here = line_in (documents_in bytes l) bar (entry_in bytes l i)

  abbrev after : Answer (List ℕ)
  after = lines_in bytes l bar (n - (i + 1)) (i + 1)

  module _ (h : i < n) where
    turn : more size (behind here after) ≡ whole
    turn = sym (ap (more size) (lines_next bytes l bar n i h)) ∙ inv

    pub measured_next : {k : ℕ} → Ok k ≡ count_of here → more (size + k) after ≡ whole
    measured_next e = sym (behind_more size here after e) ∙ turn

    pub measured_stop : {x : Refusal} → Err x ≡ count_of here → Err x ≡ whole
    measured_stop e = sym (behind_stops size here after e) ∙ turn

  pub measured_end : n ≤ i → Ok size ≡ whole
  measured_end h =
      let z : size ≡ size + 0 = omega arith in
      ap Ok z ∙ sym (ap (more size) (lines_end bytes l bar n i h)) ∙ inv

-- ---- stored

-- what was measured was decoded
pub measured_decoded : (r : Answer (List ℕ)) {k : ℕ} → Ok k ≡ count_of r → Decoded r
measured_decoded (Ok text) e = (text, refl)
measured_decoded (Err x) e = let z : ◌≡◌ {A = ℕ} 0 1 = cc in absurd (omega arith)

pub measured_length : (r : Answer (List ℕ)) {k : ℕ} → Ok k ≡ count_of r → length (text_in r) ≡ k
measured_length (Ok text) e = cc
measured_length (Err x) e = let z : ◌≡◌ {A = ℕ} 0 1 = cc in absurd (omega arith)

-- the parts of what was decoded
record Parts (line lines : Answer (List ℕ)) : Type 0 where
  first : Decoded line
  others : Decoded lines
  together : text_in (behind line lines) ≡ text_in line ++ text_in lines

parts : (line lines : Answer (List ℕ)) → Decoded (behind line lines) → Parts line lines
parts (Ok a) (Ok b) d = record { first = (a, refl); others = (b, refl); together = refl }
parts (Ok a) (Err x) (t, e) = refuse_ok e
parts (Err x) lines (t, e) = refuse_ok e

module _ (bytes : List ℕ) (l : Layout) (bar : Bar) (n i : ℕ) (h : i < n) (d : Decoded (lines_in bytes l bar (n - i) i)) where
  abbrev line : Answer (List ℕ)
  line = line_in (documents_in bytes l) bar (entry_in bytes l i)

  abbrev lines : Answer (List ℕ)
  lines = lines_in bytes l bar (n - (i + 1)) (i + 1)

  apart : Parts line lines
  apart = parts line lines (d.0, sym (lines_next bytes l bar n i h) ∙ d.1)

  line_decoded : Decoded line
  line_decoded = apart.first

  lines_decoded : Decoded lines
  lines_decoded = apart.others

  line_then_lines : text_in (lines_in bytes l bar (n - i) i) ≡ text_in line ++ text_in lines
  line_then_lines = ap text_in (lines_next bytes l bar n i h) ∙ apart.together

no_lines : (bytes : List ℕ) (l : Layout) (bar : Bar) (n i : ℕ) → n ≤ i → text_in (lines_in bytes l bar (n - i) i) ≡ []
no_lines bytes l bar n i h = ap text_in (lines_end bytes l bar n i h)

-- the lines that are still to be stored
abbrev pub LinesLeft : (bytes : List ℕ) (l : Layout) (bar : Bar) (from : ℕ) (entry : List ℕ) (n i next : ℕ) (out : List ℕ) → Type 0
LinesLeft bytes l bar from entry n i next out =
    Decoded (lines_in bytes l bar (n - i) i)
    × ToStore (text_in (lines_in bytes l bar l.terms 0)) from entry (text_in (lines_in bytes l bar (n - i) i)) next out

module _ (bytes : List ℕ) (l : Layout) (bar : Bar) (from : ℕ) (entry : List ℕ) where
  module _ {n i next : ℕ} {out : List ℕ} (h : i < n) (s : LinesLeft bytes l bar from entry n i next out) where
    apart_left : ToStoreParts (text_in (lines_in bytes l bar l.terms 0)) from entry
        (text_in (line_in (documents_in bytes l) bar (entry_in bytes l i)) ∷ [])
        (text_in (lines_in bytes l bar (n - (i + 1)) (i + 1))) next out
    apart_left = record { all = rw (line_then_lines bytes l bar n i h s.0) at s.1 }

    pub left_room : RoomFor (line_in (documents_in bytes l) bar (entry_in bytes l i)) out next
    left_room = record { decoded = line_decoded bytes l bar n i h s.0; room = to_room apart_left }

    pub left_next : {next' : ℕ} {out' : List ℕ}
        → Stored (text_in (line_in (documents_in bytes l) bar (entry_in bytes l i))) next out next' out'
        → LinesLeft bytes l bar from entry n (i + 1) next' out'
    left_next t = (lines_decoded bytes l bar n i h s.0, (to_next apart_left t).all)

  pub left_none_more : {n i next : ℕ} {out : List ℕ} → n ≤ i → LinesLeft bytes l bar from entry n i next out
      → Stored (text_in (lines_in bytes l bar l.terms 0)) from entry next out
  left_none_more {n} {i} h s = to_end (rw (no_lines bytes l bar n i h) at s.1)
