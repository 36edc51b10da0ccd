-- An entry's checks in the order of the code's tests: each refusal, and the entry that passes.
-- Assumes nothing.
use Rattle.std.specs.Prelude.{Err, Ok, Option}
use Rattle.segment.specs.Results.{Answer}
use mathlib.Core.Path.{◌≡◌, sym, ap, ◌∙◌}
use mathlib.Core.Bool.{true, false}
use mathlib.Core.List.{List}
use Prim.Native.Nat.{ℕ, ◌-◌, ◌≤◌}
use native.Mathlib.Omega.{arith}
use lib.Dec.{ltb}
use lib.ListN.{length, take, drop, length-take, length-drop}
use lib.Seq.{take_all}
use borrow.Author.Tests.{lt-ltb, le-ltb}
use Rattle.utf8.specs.Utf8.{utf8}
use Rattle.segment.specs.declared.refusal.Refusal.{Refusal}
use Rattle.read_open.specs.declared.directory.NameRange.{NameRange}
use Rattle.segment.specs.Refusals.{term_bytes, postings, invalid_utf8, invalid_layout, empty_term, non_increasing_term}
use Rattle.segment.specs.Refusals.{empty_term_posting_list}
use Rattle.segment.specs.Records.{field, between}
use Rattle.segment.specs.Directory.{part, follows, read_list_range, read_entry}
use Rattle.read_open.specs.Steps.{range_end, InNames, name_in, name_before, name_read, entry_means, WalkedEntry}
use Rattle.segment.specs.Steps.{checked}
use Rattle.segment.proofs.Accepted.{passed_ok, refused_is}
use Rattle.read_open.proofs.Sections.{part_to, part_is, end_is}

pub between_length : (a b : ℕ) (l : List ℕ) → b ≤ length l → length (between a b l) ≡ b - a
between_length a b l h = simp (length-take, length-drop) (omega arith)

-- a slice up to its end
pub to_end : (l : List ℕ) (at : ℕ) → take (length l - at) (drop at l) ≡ drop at l
to_end l at = take_all (length l - at) (drop at l) (simp length-drop (omega arith))

-- the list, from the end r of its range
module _ (bytes lists : List ℕ) {at n : ℕ} (is_at : at ≡ field 8 8 bytes) (is_n : n ≡ field 8 16 bytes)
    {r : Answer ℕ} (is_end : r ≡ range_end postings at n (length lists)) where
  list_part : part postings (field 8 8 bytes) (field 8 16 bytes) lists ≡ part_to at lists r
  list_part = rw (← is_at, ← is_n, is_end) (part_is postings at n lists)

  pub list_lost : {x : Refusal} → r ≡ Err x → Err x ≡ checked (read_list_range bytes lists)
  unfolding read_list_range
  list_lost q = rw (list_part, q)

  module _ {e d : ℕ} (q : r ≡ Ok e) (is_d : d ≡ field 4 24 bytes) where
    pub list_empty : d ≡ 0 → Err (invalid_layout empty_term_posting_list) ≡ checked (read_list_range bytes lists)
    unfolding read_list_range
    list_empty z = rw (list_part, q, ← is_d, z)

    pub list_fine : (d ≡ 0 → ⊥) → (Ok tt) ≡ checked (read_list_range bytes lists)
    unfolding read_list_range
    list_fine z = rw (list_part, q, ← is_d, lt-ltb 0 d (omega arith))

-- the entry, from the end r of its name's range
module _ (bytes names : List ℕ) {at n : ℕ} (is_at : at ≡ field 4 0 bytes) (is_n : n ≡ field 4 4 bytes)
    {r : Answer ℕ} (is_end : r ≡ range_end term_bytes at n (length names)) where
  name_part : part term_bytes (field 4 0 bytes) (field 4 4 bytes) names ≡ part_to at names r
  name_part = rw (← is_at, ← is_n, is_end) (part_is term_bytes at n names)

  pub name_inside : {e : ℕ} → r ≡ Ok e → InNames (record { start = at; end = e }) names
  name_inside q = let i = end_is term_bytes at n (length names) (sym is_end ∙ q) in record { in_order = omega arith; inside = i.1 }

  module _ (previous : Option (List ℕ)) (lists : List ℕ) where
    pub name_lost : {x : Refusal} → r ≡ Err x → Err x ≡ name_read (read_entry previous bytes names lists)
    unfolding read_entry
    name_lost q = rw (name_part, q)

    module _ {e : ℕ} (q : r ≡ Ok e) where
      pub not_text : utf8 (between at e names) ≡ false → Err invalid_utf8 ≡ name_read (read_entry previous bytes names lists)
      unfolding read_entry
      not_text f = rw (name_part, q, f)

      module _ (text : utf8 (between at e names) ≡ true) where
        pub no_bytes : at ≡ e → Err (invalid_layout empty_term) ≡ name_read (read_entry previous bytes names lists)
        unfolding read_entry
        no_bytes f =
            let l = between_length at e names (name_inside q).inside in
            rw (name_part, q, text, le-ltb 0 (length (between at e names)) (omega arith))

        module _ (some_bytes : at ≡ e → ⊥) where
          long : ltb 0 (length (between at e names)) ≡ true
          long =
              let i = name_inside q in
              let l = between_length at e names i.inside in
              lt-ltb 0 (length (between at e names)) (omega arith)

          pub not_after : follows previous (between at e names) ≡ false
              → Err (invalid_layout non_increasing_term) ≡ name_read (read_entry previous bytes names lists)
          unfolding read_entry
          not_after f = rw (name_part, q, text, long, f)

          module _ (after : follows previous (between at e names) ≡ true) where
            pub bad_list : {x : Refusal} → Err x ≡ checked (read_list_range bytes lists)
                → Err x ≡ name_read (read_entry previous bytes names lists)
            unfolding read_entry
            bad_list f = rw (name_part, q, text, long, after, refused_is (read_list_range bytes lists) f)

            pub all_fine : (Ok tt) ≡ checked (read_list_range bytes lists)
                → Ok (between at e names) ≡ name_read (read_entry previous bytes names lists)
            unfolding read_entry
            all_fine f = rw (name_part, q, text, long, after, (passed_ok (read_list_range bytes lists) f).1)

-- ---- what a step over an entry shows

module _ {previous : Option NameRange} {bytes names lists : List ℕ} where
  pub refused_entry : {x : Refusal} → Err x ≡ name_read (read_entry (name_before names previous) bytes names lists)
      → WalkedEntry previous bytes names lists (Err x)
  refused_entry e = record { reads = e; stays = tt }

  module _ {r : Answer NameRange} (w : WalkedEntry previous bytes names lists r) where
    pub next_name : {n : NameRange} → r ≡ Ok n
        → Ok (name_in names n) ≡ name_read (read_entry (name_before names previous) bytes names lists)
    next_name e = sym (ap (entry_means names) e) ∙ w.reads

    pub next_inside : {n : NameRange} → r ≡ Ok n → InNames n names
    next_inside e = rw e at w.stays

    pub stopped : {x : Refusal} → r ≡ Err x
        → Err x ≡ name_read (read_entry (name_before names previous) bytes names lists)
    stopped e = sym (ap (entry_means names) e) ∙ w.reads
