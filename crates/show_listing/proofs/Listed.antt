-- The whole text in the lent slice: its length, the reply, and what the slice holds.
-- Assumes nothing.
use Rattle.std.specs.Prelude.{Err, None, Ok}
use mathlib.Core.Path.{◌≡◌, sym, ap, ◌∙◌}
use mathlib.Core.List.{List, [], ◌∷◌, ◌++◌}
use Prim.Native.Nat.{ℕ, ◌+◌, ◌*◌, ◌≤◌, ◌<◌}
use native.Mathlib.Nat.{zero-add}
use native.Mathlib.Omega.{arith}
use lib.ListN.{length, drop, length-append}
use borrow.Author.Tests.{le-leb, lt-leb}
use Rattle.common.specs.Stores.{Stored}
use Rattle.common.proofs.Sets.{sets_front}
use Rattle.common.proofs.Bytes.{Bytes}
use Rattle.segment.specs.declared.refusal.Refusal.{Refusal}
use Rattle.read_open.specs.declared.header.Layout.{Layout}
use Rattle.segment.specs.declared.refusal.Numbers.{Numbers}
use Rattle.segment.specs.Refusals.{numbers, no_room, too_large}
use Rattle.segment.specs.Results.{Answer}
use Rattle.segment.specs.Records.{Segment}
use Rattle.segment.specs.Opening.{open_segment}
use Rattle.read_open.specs.Steps.{cut}
use Rattle.read_cursors.specs.Held.{held_documents}
use Rattle.read_open.specs.Opened.{IsOpen, Opens, OpenedAs}
use Rattle.read_cursors.proofs.DocumentsHeld.{held_rise}
use Rattle.calls.specs.Replies.{count_of, filled}
use Rattle.calls.specs.Listing.{column, document_lines, entry_lines, count_line, refusal_line, text_of, listable, listing, list_into}
use Rattle.show_listing.specs.Steps.{TextListed, SegmentListed, RefusalListed, numbers_line, entry_lines_at}
use Rattle.show_listing.specs.Promise.{ListedInto}
use Rattle.common.proofs.Stores.{stored_append}
use Rattle.show_columns.proofs.Columns.{column_length}
use Rattle.show_listing.proofs.Indices.{index_small}
use Rattle.show_listing.proofs.Texts.{pair_length, document_lines_length, entry_lines_are}

-- ---- with room, and without

module _ {text out : List ℕ} {w : ℕ} (is : length text ≡ w) where
  pub listed : {out' : List ℕ} {n : ℕ} → Stored text 0 out n out' → w ≤ length out → TextListed text out (Ok n) out'
  listed {out'} {n} s h =
      let fits : length text ≤ length out = omega arith in
      let all : n ≡ length text = omega (arith, s.past) in
      record {
        reply = rw (le-leb (length text) (length out) fits) (ap Ok all);
        left = rw (le-leb (length text) (length out) fits) (s.left ∙ sets_front out text fits);
      }

  pub no_place : length out < w → TextListed text out (Err (no_room 1 w)) out
  no_place h =
      let short : length out < length text = omega arith in
      record { reply = rw (lt-leb (length text) (length out) short, is); left = rw (lt-leb (length text) (length out) short) }

-- ---- a refusal's line

module _ (x : Numbers) where
  pub refusal_length : x.kind < 10000000000 → x.which < 10000000000 → x.index < 10000000000 → length (numbers_line x) ≡ 31
  unfolding numbers_line
  refusal_length k w i =
      simp (length-append, column_length x.kind k, column_length x.which w, column_length x.index i)

  pub refusal_stored : {out o₁ o₂ o₃ o₄ : List ℕ} {n₁ n₂ n₃ n₄ : ℕ} → Stored (column x.kind) 0 out n₁ o₁
      → Stored (column x.which) n₁ o₁ n₂ o₂ → Stored (column x.index) n₂ o₂ n₃ o₃ → Stored (10 ∷ []) n₃ o₃ n₄ o₄
      → Stored (numbers_line x) 0 out n₄ o₄
  unfolding numbers_line
  refusal_stored k w i e = stored_append (stored_append (stored_append k w) i) e

-- that of a refusal's own numbers, as a call told them
pub own_line : (x : Refusal) {n : Numbers} → n ≡ numbers x → numbers_line n ≡ refusal_line x
unfolding numbers_line refusal_line
own_line x is = ap numbers_line is

pub own_listed : (x : Refusal) {n : Numbers} {out out' : List ℕ} {r : Answer ℕ} → n ≡ numbers x → RefusalListed n out r out'
    → TextListed (refusal_line x) out r out'
own_listed x is t = rw (own_line x is) at t

-- ---- an open segment's lines

module _ {bytes : List ℕ} {l : Layout} {s : Segment} (o : IsOpen bytes l s) where
  abbrev counts : List ℕ
  counts = column l.documents ++ column l.terms ++ 10 ∷ []

  abbrev documents : List ℕ
  documents = document_lines (held_documents l.documents None (cut bytes l).metadata)

  abbrev terms : List ℕ
  terms = entry_lines_at (cut bytes l).directory (cut bytes l).names l.terms 0

  terms_are : entry_lines s.entries ≡ terms
  terms_are =
      entry_lines_are (cut bytes l).directory (cut bytes l).names (cut bytes l).lists s.entries 0
      (λ i h. rw (zero-add i) (o.entry i (omega (arith, o.term_count))))
      ∙ ap (λ n. entry_lines_at (cut bytes l).directory (cut bytes l).names n 0) o.term_count

  text : text_of (Ok s) ≡ counts ++ documents ++ terms
  unfolding count_line
  text = rw (terms_are, o.document_count, o.term_count, o.documents)

  pub held_length : length (held_documents l.documents None (cut bytes l).metadata) ≡ l.documents
  held_length = ap length o.documents ∙ o.document_count

  pub text_length : l.documents < 10000000000 → l.terms < 10000000000
      → length (text_of (Ok s)) ≡ 21 + l.documents * 21 + length terms
  text_length d t =
      let held = held_documents l.documents None (cut bytes l).metadata in
      let one = pair_length l.documents l.terms d t in
      let two = document_lines_length 0 held (held_rise l.documents None (cut bytes l).metadata) in
      omega (arith, ap length text, length-append (counts ++ documents) terms, length-append counts documents, held_length)

  pub segment_stored : {out o₁ o₂ o₃ : List ℕ} {n₁ n₂ n₃ : ℕ} → Stored counts 0 out n₁ o₁ → Stored documents n₁ o₁ n₂ o₂
      → Stored terms n₂ o₂ n₃ o₃
      → Stored (text_of (Ok s)) 0 out n₃ o₃
  segment_stored a b c = rw text (stored_append (stored_append a b) c)

-- ---- the listing

listed_into : {bytes text out out' : List ℕ} {r : Answer ℕ} → listing bytes ≡ text → TextListed text out r out'
    → ListedInto bytes out r out'
unfolding list_into
listed_into e t = record { reply = rw e t.reply; left = rw e t.left }

pub listed_large : (bytes : List ℕ) {n : Numbers} {out out' : List ℕ} {q : Answer ℕ} → 65536 < length bytes → n ≡ numbers too_large
    → RefusalListed n out q out'
    → ListedInto bytes out q out'
unfolding listing listable
listed_large bytes h is t = listed_into (rw (lt-leb (length bytes) 65536 h)) (own_listed too_large is t)

opened_text : (bytes : List ℕ) → length bytes ≤ 65536 → listing bytes ≡ text_of (open_segment bytes)
unfolding listing listable
opened_text bytes h = rw (le-leb (length bytes) 65536 h)

-- from what opening answered
module _ (bytes : List ℕ) {r : Answer Layout} (o : Opens bytes r) where
  module _ {l : Layout} (e : r ≡ Ok l) where
    pub layout_listable : OpenedAs bytes l
    layout_listable = let (s, q, is) = rw e at o in (s, is)

    pub listed_layout : {out out' : List ℕ} {q : Answer ℕ} → length bytes ≤ 65536 → SegmentListed bytes l out q out'
        → ListedInto bytes out q out'
    listed_layout h t =
        let (s, q, is) = rw e at o in
        listed_into (opened_text bytes h ∙ ap text_of q) (t s is)

  module _ {x : Refusal} (e : r ≡ Err x) {n : Numbers} (is : n ≡ numbers x) where
    pub refused_small : Bytes bytes → n.index < 10000000000
    refused_small b = rw is (omega (arith, index_small bytes b (rw e at o)))

    pub listed_refused : {out out' : List ℕ} {q : Answer ℕ} → length bytes ≤ 65536 → RefusalListed n out q out'
        → ListedInto bytes out q out'
    listed_refused h t = listed_into (opened_text bytes h ∙ ap text_of (rw e at o)) (own_listed x is t)

-- the text lies in the slice
pub listed_fits : {bytes out out' : List ℕ} {r : Answer ℕ} {k : ℕ} → ListedInto bytes out r out' → r ≡ Ok k → k ≤ length out'
listed_fits {bytes} {out} {out'} {k = k} l e = by (list_into bytes (length out)) (sym e ∙ l.reply) l.left
  where
    by : (q : Answer (List ℕ)) → Ok k ≡ count_of q → out' ≡ filled (λ text. text) q out → k ≤ length out'
    by (Ok text) f g = let h : k ≡ length text = cc in omega (arith, ap length g, length-append text (drop (length text) out))
    by (Err x) f g = let z : ◌≡◌ {A = ℕ} 0 1 = cc in absurd (omega arith)
