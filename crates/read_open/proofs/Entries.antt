-- A directory that was accepted: its entries by index, each good, with names that rise. And the section checked an entry at a time.
-- Assumes nothing.
use Rattle.segment.specs.declared.refusal.Section.{Section}
use Rattle.std.specs.Prelude.{Err, None, Ok, Option, Some}
use mathlib.Core.Path.{◌≡◌, refl, sym, ap, ap₂, ◌∙◌}
use mathlib.Core.Bool.{true}
use mathlib.Core.List.{List, [], ◌∷◌}
use Prim.Native.Nat.{ℕ, zero, suc, ◌+◌, ◌*◌, ◌-◌, ◌≤◌, ◌<◌, ◌^◌}
use native.Mathlib.Nat.{not-suc-le-zero, add-zero}
use native.Mathlib.Omega.{arith}
use lib.Dec.{ltb, leb, eqb}
use lib.ListN.{length, take, drop, get_or}
use lib.Seq.{drop-drop}
use borrow.Author.Tests.{ltb-true, leb-true, eqb-true, eq-eqb, ne_eqb}
use Rattle.utf8.specs.Utf8.{utf8}
use Rattle.common.proofs.Loops.{left_suc, left_none}
use Rattle.segment.specs.declared.refusal.Refusal.{Refusal}
use Rattle.segment.specs.Refusals.{term_bytes, postings, invalid_layout, directory_length_mismatch}
use Rattle.segment.specs.Results.{Answer}
use Rattle.segment.specs.Records.{Entry, little_endian, field}
use Rattle.segment.specs.Names.{precedes}
use Rattle.segment.specs.Directory.{part, follows, read_list_range, read_entry, read_entries, directory}
use Rattle.segment.specs.Steps.{checked}
use Rattle.read_open.specs.Steps.{name_read, name_at, entry_at, EntryInside, Sorted}
use Rattle.read_open.specs.Opened.{no_entry}
use Rattle.segment.proofs.Strings.{precedes_transitive}
use Rattle.segment.proofs.Binds.{bind_gives, ok_same, refuse_ok}
use Rattle.segment.proofs.Accepted.{check_gives, same_check}

-- What the checks of an entry say of its content
pub record Whole (e : Entry) : Type 0 where
  pub text : utf8 e.name ≡ true
  pub some_bytes : 0 < length e.name
  pub some_postings : 0 < e.df

-- A directory that was accepted
pub record DirectoryRead (dir names lists : List ℕ) (count : ℕ) (es : List Entry) : Type 0 where
  pub size : length es ≡ count
  pub sorted : Sorted dir names count
  pub entry : (i : ℕ) → i < count → get_or es i no_entry ≡ entry_at dir names lists i
  pub list : (i : ℕ) → i < count → field 8 (i * 32 + 8) dir + field 8 (i * 32 + 16) dir ≤ length lists
  pub whole : (i : ℕ) → i < count → Whole (get_or es i no_entry)

-- ---- one entry

part_ok : (section : Section) (at n : ℕ) (whole : List ℕ) {l : List ℕ} → part section at n whole ≡ Ok l
    → (at + n ≤ length whole) × (take n (drop at whole) ≡ l)
unfolding part
part_ok section at n whole e =
    let (_, f) = check_gives (ltb (at + n) (2 ^ 64)) _ _ e in
    let (inside, g) = check_gives (leb (at + n) (length whole)) _ _ f in
    (leb-true _ _ inside, ok_same g)

list_ok : (bytes lists : List ℕ) {l : List ℕ} → read_list_range bytes lists ≡ Ok l
    → (field 8 8 bytes + field 8 16 bytes ≤ length lists) × (take (field 8 16 bytes) (drop (field 8 8 bytes) lists) ≡ l)
    × (0 < field 4 24 bytes)
unfolding read_list_range
list_ok bytes lists e =
    let (list, p, f) = bind_gives (part postings (field 8 8 bytes) (field 8 16 bytes) lists) _ e in
    let (inside, here) = part_ok postings (field 8 8 bytes) (field 8 16 bytes) lists p in
    let (some_postings, g) = check_gives (ltb 0 (field 4 24 bytes)) _ _ f in
    (inside, here ∙ ok_same g, ltb-true _ _ some_postings)

-- an entry at the front of its bytes
record First (bytes names lists : List ℕ) (e : Entry) : Type 0 where
  entry : e ≡ entry_at bytes names lists 0
  name : field 4 0 bytes + field 4 4 bytes ≤ length names
  list : field 8 8 bytes + field 8 16 bytes ≤ length lists
  whole : Whole e

entry_ok : (previous : Option (List ℕ)) (bytes names lists : List ℕ) {e : Entry} → read_entry previous bytes names lists ≡ Ok e
    → First bytes names lists e × (follows previous e.name ≡ true)
unfolding read_entry
entry_ok previous bytes names lists {e} h =
    let (name, n, h₁) = bind_gives (part term_bytes (field 4 0 bytes) (field 4 4 bytes) names) _ h in
    let (inside, here) = part_ok term_bytes (field 4 0 bytes) (field 4 4 bytes) names n in
    let (text, h₂) = check_gives (utf8 name) _ _ h₁ in
    let (long, h₃) = check_gives (ltb 0 (length name)) _ _ h₂ in
    let (after, h₄) = check_gives (follows previous name) _ _ h₃ in
    let (list, l, h₅) = bind_gives (read_list_range bytes lists) _ h₄ in
    let (within, there, postings) = list_ok bytes lists l in
    rw (← ok_same h₅) (
      record {
        entry = rw (here, there);
        name = inside;
        list = within;
        whole = record { text = text; some_bytes = ltb-true _ _ long; some_postings = postings };
      },
      after,
    )

-- ---- all of them

record EntriesRead (previous : Option (List ℕ)) (dir names lists : List ℕ) (n : ℕ) (es : List Entry) : Type 0 where
  size : length es ≡ n
  at : (i : ℕ) → i < n → First (drop (i * 32) dir) names lists (get_or es i no_entry)
  after : (i : ℕ) → i < n → follows previous (get_or es i no_entry).name ≡ true
  rising : (i j : ℕ) → i < j → j < n → precedes (get_or es i no_entry).name (get_or es j no_entry).name ≡ true

drop_next : (dir : List ℕ) (i : ℕ) → drop (i * 32) (drop 32 dir) ≡ drop (suc i * 32) dir
drop_next dir i = let e : 32 + i * 32 ≡ suc i * 32 = omega arith in drop-drop (i * 32) 32 dir ∙ ap (λ k. drop k dir) e

after_both : (previous : Option (List ℕ)) (a b : List ℕ) → follows previous a ≡ true → precedes a b ≡ true → follows previous b ≡ true
after_both None a b e f = refl
after_both (Some p) a b e f = precedes_transitive p a b e f

module _ (previous : Option (List ℕ)) {dir names lists : List ℕ} {e : Entry} {n : ℕ} {es : List Entry} (first : First dir names lists e)
    (follow : follows previous e.name ≡ true) (rest : EntriesRead (Some e.name) (drop 32 dir) names lists n es) where
  at_one : (i : ℕ) → i < suc n → First (drop (i * 32) dir) names lists (get_or (e ∷ es) i no_entry)
  at_one zero h = first
  at_one (suc i) h = rw (← drop_next dir i) (rest.at i (omega arith))

  after_one : (i : ℕ) → i < suc n → follows previous (get_or (e ∷ es) i no_entry).name ≡ true
  after_one zero h = follow
  after_one (suc i) h = after_both previous _ _ follow (rest.after i (omega arith))

  rising_one : (i j : ℕ) → i < j → j < suc n → precedes (get_or (e ∷ es) i no_entry).name (get_or (e ∷ es) j no_entry).name ≡ true
  rising_one i zero h k = absurd (not-suc-le-zero h)
  rising_one zero (suc j) h k = rest.after j (omega arith)
  rising_one (suc i) (suc j) h k = rest.rising i j (omega arith) (omega arith)

  one_more : EntriesRead previous dir names lists (suc n) (e ∷ es)
  one_more = record { size = ap suc rest.size; at = at_one; after = after_one; rising = rising_one }

none_read : (previous : Option (List ℕ)) (dir names lists : List ℕ) → EntriesRead previous dir names lists 0 []
none_read previous dir names lists = record {
  size = refl;
  at = λ i h. absurd (omega arith);
  after = λ i h. absurd (omega arith);
  rising = λ i j h k. absurd (omega arith);
}

entries_ok : (n : ℕ) (previous : Option (List ℕ)) (dir names lists : List ℕ) (es : List Entry)
    → read_entries n previous dir names lists ≡ Ok es → EntriesRead previous dir names lists n es
unfolding read_entries
entries_ok zero previous dir names lists es h = rw (← ok_same h) (none_read previous dir names lists)
entries_ok (suc n) previous dir names lists es h =
    let (e, one, h₁) = bind_gives (read_entry previous dir names lists) _ h in
    let (more, rest, h₂) = bind_gives (read_entries n (Some e.name) (drop 32 dir) names lists) _ h₁ in
    let (first, after) = entry_ok previous dir names lists one in
    rw (← ok_same h₂) (one_more previous first after (entries_ok n (Some e.name) (drop 32 dir) names lists more rest))

field_at : (n at c : ℕ) (dir : List ℕ) → field n c (drop at dir) ≡ field n (at + c) dir
field_at n at c dir = ap (λ l. little_endian (take n l)) (drop-drop c at dir)

first_at : (dir names lists : List ℕ) (i : ℕ) → entry_at (drop (i * 32) dir) names lists 0 ≡ entry_at dir names lists i
first_at dir names lists i = simp (field_at, add-zero)

module _ {dir names lists : List ℕ} {count : ℕ} {es : List Entry} (long : length dir ≡ 32 * count)
    (r : EntriesRead None dir names lists count es) where
  entry_here : (i : ℕ) → i < count → get_or es i no_entry ≡ entry_at dir names lists i
  entry_here i h = (r.at i h).entry ∙ first_at dir names lists i

  name_here : (i : ℕ) → i < count → name_at dir names i ≡ (get_or es i no_entry).name
  name_here i h = ap (λ (e : Entry). e.name) (sym (entry_here i h))

  inside_here : (i : ℕ) → i < count → EntryInside dir names i
  inside_here i h = record { entry = omega arith; name = simp (field_at, add-zero) at (r.at i h).name }

  directory_read : DirectoryRead dir names lists count es
  directory_read = record {
    size = r.size;
    sorted = record {
      inside = inside_here;
      rising = λ i j h k. ap₂ precedes (name_here i (omega arith)) (name_here j k) ∙ r.rising i j h k;
    };
    entry = entry_here;
    list = λ i h. simp field_at at (r.at i h).list;
    whole = λ i h. (r.at i h).whole;
  }

pub directory_ok : (count : ℕ) (dir names lists : List ℕ) {es : List Entry} → directory count dir names lists ≡ Ok es
    → DirectoryRead dir names lists count es
unfolding directory
directory_ok count dir names lists {es} h =
    let (long, h₁) = check_gives (eqb (length dir) (32 * count)) _ _ h in
    directory_read (eqb-true _ _ long) (entries_ok count None dir names lists es h₁)

-- ---- the section checked: its length, then an entry at a time, from entry i on

module _ (count : ℕ) (dir names lists : List ℕ) where
  pub wrong_length : (length dir ≡ 32 * count → ⊥)
      → Err (invalid_layout directory_length_mismatch) ≡ checked (directory count dir names lists)
  unfolding directory
  wrong_length n = rw (ne_eqb (length dir) (32 * count) n)

  pub right_length : length dir ≡ 32 * count → checked (read_entries count None dir names lists) ≡ checked (directory count dir names lists)
  unfolding directory
  right_length e = rw (eq-eqb (length dir) (32 * count) e)

named_ok : (r : Answer Entry) {name : List ℕ} → Ok name ≡ name_read r → (e : Entry) × (r ≡ Ok e) × (name ≡ e.name)
named_ok (Ok e) h = (e, refl, ok_same h)
named_ok (Err x) h = refuse_ok (sym h)

named_refused : (r : Answer Entry) {x : Refusal} → Err x ≡ name_read r → r ≡ Err x
named_refused (Ok e) h = refuse_ok h
named_refused (Err y) h = cc

module _ (dir names lists : List ℕ) (terms i : ℕ) (previous : Option (List ℕ)) {result : (Answer (Unit {0}))}
    (inv : checked (read_entries (terms - i) previous (drop (i * 32) dir) names lists) ≡ result) where
  pub entries_next : {name : List ℕ} → i < terms → Ok name ≡ name_read (read_entry previous (drop (i * 32) dir) names lists)
      → checked (read_entries (terms - (i + 1)) (Some name) (drop ((i + 1) * 32) dir) names lists) ≡ result
  unfolding read_entries
  entries_next h e =
      let (a, q, n) = named_ok (read_entry previous (drop (i * 32) dir) names lists) e in
      let m : (i + 1) * 32 ≡ i * 32 + 32 = omega arith in
      rw (n, m, ← drop-drop 32 (i * 32) dir)
      (sym (same_check (read_entries (terms - (i + 1)) (Some a.name) (drop 32 (drop (i * 32) dir)) names lists) (λ more. a ∷ more))
      ∙ (rw (left_suc terms i h, q) at inv))

  pub entries_stop : {x : Refusal} → i < terms → Err x ≡ name_read (read_entry previous (drop (i * 32) dir) names lists)
      → Err x ≡ result
  unfolding read_entries
  entries_stop h e = rw (left_suc terms i h, named_refused (read_entry previous (drop (i * 32) dir) names lists) e) at inv

  pub entries_end : terms ≤ i → (Ok tt) ≡ result
  unfolding read_entries
  entries_end h = rw (left_none terms i h) at inv
