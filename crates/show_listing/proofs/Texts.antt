-- Lines: their lengths, and the documents' and the terms' lines as the code stores them, one at a time.
-- Assumes nothing.
use mathlib.Core.Path.{◌≡◌, refl, ap, ap₂, ◌∙◌}
use mathlib.Core.List.{List, [], ◌∷◌, ◌++◌}
use Prim.Native.Nat.{ℕ, zero, suc, ◌+◌, ◌-◌, ◌*◌, ◌≤◌, ◌<◌}
use native.Mathlib.Nat.{add-zero}
use native.Mathlib.Numerals.{add-one}
use native.Mathlib.Omega.{arith}
use lib.ListN.{length, get_or, length-append}
use Rattle.common.specs.Stores.{Stored}
use Rattle.common.proofs.Bytes.{Bytes}
use Rattle.common.proofs.Loops.{left_suc, left_none}
use Rattle.read_cursors.specs.declared.documents.Documents.{Documents}
use Rattle.segment.specs.Records.{Document, Entry, field, between}
use Rattle.segment.specs.Metadata.{document}
use Rattle.read_cursors.specs.Held.{rest_of}
use Rattle.read_cursors.specs.Steps.{documents_at, documents_from}
use Rattle.read_open.specs.declared.directory.NameRange.{NameRange}
use Rattle.read_open.specs.Steps.{name_at, entry_at, EntryInside}
use Rattle.read_open.specs.Opened.{no_entry}
use Rattle.read_cursors.proofs.DocumentsHeld.{Rising}
use Rattle.calls.specs.Listing.{column, name_column, document_line, document_lines, entry_line, entry_lines}
use Rattle.show_listing.specs.Steps.{name_range, entry_lines_at}
use Rattle.common.proofs.Stores.{stored_append}
use Rattle.show_columns.proofs.Columns.{column_length}
use Rattle.show_columns.proofs.Names.{name_most}
use Rattle.show_listing.proofs.Widths.{field_small}

-- ---- lengths

pub pair_length : (a b : ℕ) → a < 10000000000 → b < 10000000000 → length (column a ++ column b ++ 10 ∷ []) ≡ 21
pair_length a b h k = simp (length-append, column_length a h, column_length b k)

pub past_pair : (a b : ℕ) {at next : ℕ} {l o : List ℕ} → Stored (column a ++ column b ++ 10 ∷ []) at l next o → a < 10000000000
    → b < 10000000000
    → next ≡ at + 21
past_pair a b s h k = omega (arith, s.past, pair_length a b h k)

pub document_lines_length : (low : ℕ) (ds : List Document) → Rising low ds → length (document_lines ds) ≡ 21 * length ds
unfolding document_lines document_line
document_lines_length low [] r = refl
document_lines_length low (d ∷ ds) r =
    let line = column d.id ++ column d.len ++ 10 ∷ [] in
    let one = pair_length d.id d.len (omega arith) (omega arith) in
    let more = document_lines_length (suc d.id) ds r.3 in
    omega (arith, length-append line (document_lines ds))

entry_line_length : (e : Entry) → e.df < 10000000000 → length (entry_line e) ≡ length (name_column 16 e.name) + 11
unfolding entry_line
entry_line_length e h = simp (length-append, column_length e.df h) (omega arith)

module _ (dir names : List ℕ) where
  pub entry_at_length : Bytes dir → (i : ℕ)
      → length (entry_line (entry_at dir names [] i)) ≡ length (name_column 16 (name_at dir names i)) + 11
  entry_at_length b i = entry_line_length (entry_at dir names [] i) (omega (arith, field_small (i * 32 + 24) b))

  pub entry_at_most : Bytes dir → (i : ℕ) → length (entry_line (entry_at dir names [] i)) ≤ 75
  entry_at_most b i = omega (arith, entry_at_length b i, name_most 16 (name_at dir names i))

  pub entry_lines_most : Bytes dir → (n i : ℕ) → length (entry_lines_at dir names n i) ≤ 75 * n
  unfolding entry_lines_at
  entry_lines_most b zero i = omega arith
  entry_lines_most b (suc n) i =
      let line = entry_line (entry_at dir names [] i) in
      omega (arith, entry_at_most b i, entry_lines_most b n (suc i), length-append line (entry_lines_at dir names n (suc i)))

  -- ---- the terms' lines: one after another, and those of the entries read there

  pub entry_lines_next : (n i : ℕ) → i < n
      → entry_lines_at dir names (n - i) i ≡ entry_line (entry_at dir names [] i) ++ entry_lines_at dir names (n - (i + 1)) (i + 1)
  unfolding entry_lines_at
  entry_lines_next n i h = rw (left_suc n i h, add-one i)

  pub entry_lines_less : (n i : ℕ) → i < n
      → length (entry_lines_at dir names (n - i) i)
      ≡ length (entry_line (entry_at dir names [] i)) + length (entry_lines_at dir names (n - (i + 1)) (i + 1))
  entry_lines_less n i h =
      ap length (entry_lines_next n i h)
      ∙ length-append (entry_line (entry_at dir names [] i)) (entry_lines_at dir names (n - (i + 1)) (i + 1))

  pub entry_lines_end : (n i : ℕ) → n ≤ i → entry_lines_at dir names (n - i) i ≡ []
  unfolding entry_lines_at
  entry_lines_end n i h = rw (left_none n i h)

  pub entry_lines_are : (lists : List ℕ) (es : List Entry) (k : ℕ)
      → ((i : ℕ) → i < length es → get_or es i no_entry ≡ entry_at dir names lists (k + i))
      → entry_lines es ≡ entry_lines_at dir names (length es) k
  unfolding entry_lines entry_lines_at entry_line
  entry_lines_are lists [] k h = refl
  entry_lines_are lists (e ∷ es) k h =
      let first : e ≡ entry_at dir names lists k = rw (add-zero k) at (h 0 (omega arith)) in
      let later : (i : ℕ) → k + suc i ≡ suc k + i = λ i. omega arith in
      ap₂ (λ (a b : List ℕ). a ++ b)
      (ap entry_line first)
      (entry_lines_are lists es (suc k) (λ i q. h (suc i) (omega arith) ∙ ap (entry_at dir names lists) (later i)))

-- a term's line, from where its name lies
pub name_range_is : (dir : List ℕ) (i : ℕ) {start size : ℕ} → start ≡ field 4 (i * 32) dir → size ≡ field 4 (i * 32 + 4) dir
    → ◌≡◌ {A = NameRange} (record { start = start; end = start + size }) (name_range dir i)
name_range_is dir i e f = rw (e, f)

pub name_len_most : (name : List ℕ) {n : ℕ} → n ≡ length (name_column 16 name) → n ≤ 64
name_len_most name e = omega (arith, e, name_most 16 name)

module _ (dir names : List ℕ) (i : ℕ) {r : NameRange} (is : r ≡ name_range dir i) where
  pub name_inside : EntryInside dir names i → (r.start ≤ r.end) × (r.end ≤ length names)
  name_inside h = omega (arith, ap (λ (n : NameRange). n.start) is, ap (λ (n : NameRange). n.end) is, h.name)

  pub name_between : between r.start r.end names ≡ name_at dir names i
  name_between =
      let start = field 4 (i * 32) dir in
      let size = field 4 (i * 32 + 4) dir in
      let e : start + size - start ≡ size = omega arith in
      rw (is, e)

  pub entry_size_is : Bytes dir → {n : ℕ} → n ≡ length (name_column 16 (between r.start r.end names))
      → n + 11 ≡ length (entry_line (entry_at dir names [] i))
  entry_size_is b {n} e =
      let same : n ≡ length (name_column 16 (name_at dir names i)) = e ∙ ap (λ l. length (name_column 16 l)) name_between in
      omega (arith, same, entry_at_length dir names b i)

  pub entry_stored : {df at n n' n'' : ℕ} {l o o' o'' : List ℕ} → df ≡ field 4 (i * 32 + 24) dir
      → Stored (name_column 16 (between r.start r.end names)) at l n o → Stored (column df) n o n' o' → Stored (10 ∷ []) n' o' n'' o''
      → Stored (entry_line (entry_at dir names [] i)) at l n'' o''
  unfolding entry_line
  entry_stored is_df a b c = rw (← is_df, ← name_between) (stored_append (stored_append a b) c)

-- ---- the documents' lines, from a cursor

at_first : (s : List ℕ) (at id len left : ℕ) → 0 < left
    → documents_at left at id len s ≡ document id len ∷ rest_of (documents_at left at id len s)
unfolding documents_at
at_first s at id len zero h = absurd (omega arith)
at_first s at id len (suc n) h = refl

no_first : (s : List ℕ) (at id len left : ℕ) → left ≤ 0 → documents_at left at id len s ≡ []
unfolding documents_at
no_first s at id len zero h = refl
no_first s at id len (suc n) h = absurd (omega arith)

module _ (meta : List ℕ) (c : Documents) (none : c.remaining ≤ 0) where
  pub no_more : length (documents_from meta c) ≡ 0
  no_more = ap length (no_first meta c.at c.id.0 c.len c.remaining none)

  pub document_lines_end : document_lines (documents_from meta c) ≡ []
  unfolding document_lines
  document_lines_end = ap document_lines (no_first meta c.at c.id.0 c.len c.remaining none)

module _ (meta : List ℕ) (c : Documents) (more : 0 < c.remaining) where
  first : documents_from meta c ≡ document c.id.0 c.len ∷ rest_of (documents_from meta c)
  first = at_first meta c.at c.id.0 c.len c.remaining more

  pub one_more : length (documents_from meta c) ≡ suc (length (rest_of (documents_from meta c)))
  one_more = ap length first

  pub document_lines_next : document_lines (documents_from meta c)
      ≡ column c.id.0 ++ column c.len ++ 10 ∷ [] ++ document_lines (rest_of (documents_from meta c))
  unfolding document_lines document_line
  document_lines_next = ap document_lines first
