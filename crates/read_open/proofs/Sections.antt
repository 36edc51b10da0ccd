-- The four sections, from where the code finds their ends; and what a layout of the header shows.
-- Assumes nothing.
use Rattle.segment.specs.declared.refusal.Section.{Section}
use Rattle.std.specs.Prelude.{Err, Ok}
use mathlib.Core.Path.{◌≡◌, refl, sym, ap, ◌∙◌}
use mathlib.Core.Bool.{Bool, true, false, cond}
use mathlib.Core.List.{List, [], ◌∷◌}
use Prim.Native.Nat.{ℕ, zero, suc, ◌+◌, ◌-◌, ◌^◌, ◌≤◌, ◌<◌}
use native.Mathlib.Omega.{arith}
use lib.Dec.{ltb, leb}
use lib.ListN.{length, take, drop}
use lib.Seq.{slice, take-nil}
use borrow.Author.Tests.{leb-true, le-leb, lt-leb, eq-eqb, ne_eqb}
use Rattle.segment.specs.declared.refusal.Refusal.{Refusal}
use Rattle.read_open.specs.declared.header.Layout.{Layout}
use Rattle.segment.specs.Refusals.{header, term_directory, term_bytes, document_metadata, postings, truncated, invalid_layout}
use Rattle.segment.specs.Refusals.{section_range_overflow, trailing_bytes, invalid_magic, unsupported_version, unsupported_flags}
use Rattle.segment.specs.Results.{Answer, ◌>>=◌, check}
use Rattle.segment.specs.Records.{field, between}
use Rattle.segment.specs.Names.{same}
use Rattle.segment.specs.Directory.{part}
use Rattle.segment.specs.Opening.{Sections, magic, ranges, sections}
use Rattle.read_open.specs.Layouts.{layout_in}
use Rattle.read_open.specs.Steps.{range_end, cut, opening_means, SectionsFollow, Reads}

take_by : (k n : ℕ) (l : List ℕ) → k ≡ n → take k l ≡ take n l
take_by k n l e = rw e

-- a section as the code lends it, by its first offset and its end
pub lent : (from to : ℕ) (bytes : List ℕ) → slice from to bytes ≡ between from to bytes
lent zero to bytes = take_by to (to - 0) bytes (omega arith)
lent (suc from) zero bytes = take_by 0 (0 - suc from) (drop (suc from) bytes) (omega arith)
lent (suc from) (suc to) [] = sym (take-nil (suc to - suc from))
lent (suc from) (suc to) (b ∷ bytes) = lent from to bytes ∙ take_by (to - from) (suc to - suc from) (drop from bytes) (omega arith)

-- the part that a range's end cuts out
abbrev pub part_to : (at : ℕ) (whole : List ℕ) → Answer ℕ → Answer (List ℕ)
part_to at whole (Ok e) = Ok (between at e whole)
part_to at whole (Err x) = Err x

pub part_is : (section : Section) (at n : ℕ) (whole : List ℕ) → part section at n whole ≡ part_to at whole (range_end section at n (length whole))
unfolding part
part_is section at n whole = by_tests (ltb (at + n) (2 ^ 64)) (leb (at + n) (length whole))
  where
    size : n ≡ at + n - at
    size = omega arith

    by_tests : (s t : Bool)
        → ◌>>=◌ (check s (invalid_layout section_range_overflow))
        (λ u. ◌>>=◌ (check t (truncated section)) (λ v. Ok (take n (drop at whole))))
        ≡ part_to at whole
        (cond s (cond t (Ok (at + n)) (Err (truncated section))) (Err (invalid_layout section_range_overflow)))
    by_tests true true = ap (λ (k : ℕ). Ok (take k (drop at whole))) size
    by_tests true false = refl
    by_tests false t = refl

-- an end that was found lies n bytes on, within the whole
pub end_is : (section : Section) (at n whole : ℕ) {e : ℕ} → range_end section at n whole ≡ Ok e → (e ≡ at + n) × (e ≤ whole)
end_is section at n whole {e} q = by_tests (ltb (at + n) (2 ^ 64)) (leb (at + n) whole) refl q
  where
    by_tests : (s t : Bool) → leb (at + n) whole ≡ t
        → cond s (cond t (Ok (at + n)) (Err (truncated section))) (Err (invalid_layout section_range_overflow))
        ≡ Ok e
        → (e ≡ at + n) × (e ≤ whole)
    by_tests true true t q = let z : e ≡ at + n = cc in (z, omega (arith, leb-true (at + n) whole t))
    by_tests true false t q = let z : ◌≡◌ {A = ℕ} 0 1 = cc in absurd (omega arith)
    by_tests false p t q = let z : ◌≡◌ {A = ℕ} 0 1 = cc in absurd (omega arith)

found : (section : Section) (at n : ℕ) (whole : List ℕ) {e : ℕ} → range_end section at n (length whole) ≡ Ok e
    → part section at n whole ≡ Ok (between at e whole)
found section at n whole q = part_is section at n whole ∙ ap (part_to at whole) q

lost : (section : Section) (at n : ℕ) (whole : List ℕ) {x : Refusal} → range_end section at n (length whole) ≡ Err x
    → part section at n whole ≡ Err x
lost section at n whole q = part_is section at n whole ∙ ap (part_to at whole) q

-- what the code is told of a range's end, with the number that it read for the length
pub told : (section : Section) (at whole : ℕ) {n m : ℕ} {r e : (Answer ℕ)} → n ≡ m → r ≡ range_end section at n whole → r ≡ e
    → range_end section at m whole ≡ e
told section at whole q f g = ap (λ (k : ℕ). range_end section at k whole) (sym q) ∙ sym f ∙ g

pub refused : {bytes : List ℕ} {answer : Answer Sections} {x : Refusal} → Err x ≡ answer → Reads bytes answer (Err x)
refused q = record { reads = q; ordered = tt; numbers = tt }

-- ---- the ends in the order of the code's tests, each from the one before

abbrev pub directory_end : List ℕ → Answer ℕ
directory_end bytes = range_end term_directory 72 (field 8 24 bytes) (length bytes)

abbrev pub names_end : List ℕ → ℕ → Answer ℕ
names_end bytes a = range_end term_bytes a (field 8 32 bytes) (length bytes)

abbrev pub metadata_end : List ℕ → ℕ → Answer ℕ
metadata_end bytes b = range_end document_metadata b (field 8 40 bytes) (length bytes)

abbrev pub lists_end : List ℕ → ℕ → Answer ℕ
lists_end bytes c = range_end postings c (field 8 48 bytes) (length bytes)

pub no_directory : (bytes : List ℕ) {x : Refusal} → directory_end bytes ≡ Err x → Err x ≡ ranges bytes
unfolding ranges
no_directory bytes q = rw (lost term_directory 72 (field 8 24 bytes) bytes q)

module _ (bytes : List ℕ) {a : ℕ} (da : directory_end bytes ≡ Ok a) where
  at_a : (a ≡ 72 + field 8 24 bytes) × (a ≤ length bytes)
  at_a = end_is _ _ _ _ da

  part_a : part term_directory 72 (field 8 24 bytes) bytes ≡ Ok (between 72 a bytes)
  part_a = found term_directory 72 (field 8 24 bytes) bytes da

  pub no_names : {x : Refusal} → names_end bytes a ≡ Err x → Err x ≡ ranges bytes
  unfolding ranges
  no_names q = rw (part_a, ← at_a.0, lost term_bytes a (field 8 32 bytes) bytes q)

  module _ {b : ℕ} (db : names_end bytes a ≡ Ok b) where
    at_b : (b ≡ a + field 8 32 bytes) × (b ≤ length bytes)
    at_b = end_is _ _ _ _ db

    part_b : part term_bytes a (field 8 32 bytes) bytes ≡ Ok (between a b bytes)
    part_b = found term_bytes a (field 8 32 bytes) bytes db

    pub no_metadata : {x : Refusal} → metadata_end bytes b ≡ Err x → Err x ≡ ranges bytes
    unfolding ranges
    no_metadata q = rw (part_a, ← at_a.0, part_b, ← at_b.0, lost document_metadata b (field 8 40 bytes) bytes q)

    module _ {c : ℕ} (dc : metadata_end bytes b ≡ Ok c) where
      at_c : (c ≡ b + field 8 40 bytes) × (c ≤ length bytes)
      at_c = end_is _ _ _ _ dc

      part_c : part document_metadata b (field 8 40 bytes) bytes ≡ Ok (between b c bytes)
      part_c = found document_metadata b (field 8 40 bytes) bytes dc

      pub no_lists : {x : Refusal} → lists_end bytes c ≡ Err x → Err x ≡ ranges bytes
      unfolding ranges
      no_lists q =
          rw (part_a, ← at_a.0, part_b, ← at_b.0, part_c, ← at_c.0, lost postings c (field 8 48 bytes) bytes q)

      module _ {d : ℕ} (dd : lists_end bytes c ≡ Ok d) where
        at_d : (d ≡ c + field 8 48 bytes) × (d ≤ length bytes)
        at_d = end_is _ _ _ _ dd

        part_d : part postings c (field 8 48 bytes) bytes ≡ Ok (between c d bytes)
        part_d = found postings c (field 8 48 bytes) bytes dd

        pub bytes_left : (d ≡ length bytes → ⊥) → Err (invalid_layout trailing_bytes) ≡ ranges bytes
        unfolding ranges
        bytes_left n =
            rw (part_a, ← at_a.0, part_b, ← at_b.0, part_c, ← at_c.0, part_d, ← at_d.0, ne_eqb d (length bytes) n)

        pub all_cut : d ≡ length bytes → {m n : ℕ} → m ≡ field 4 16 bytes → n ≡ field 4 20 bytes
            → Reads bytes (ranges bytes) (Ok (record { documents = m; terms = n; names = a; metadata = b; lists = c }))
        unfolding ranges
        all_cut e q r = record {
          reads =
              rw (part_a, ← at_a.0, part_b, ← at_b.0, part_c, ← at_c.0, part_d, ← at_d.0, eq-eqb d (length bytes) e, q, r, e);
          ordered = record {
            directory = omega (arith, at_a.0);
            names = omega (arith, at_b.0);
            metadata = omega (arith, at_c.0);
            lists = at_c.1;
          };
          numbers = rw (q, r, at_c.0, at_b.0, at_a.0);
        }

-- ---- the header's tests in front of the ends

module _ (bytes : List ℕ) where
  pub too_short : length bytes < 72 → Err (truncated header) ≡ sections bytes
  unfolding sections
  too_short h = rw (lt-leb 72 (length bytes) h)

  module _ (long : 72 ≤ length bytes) where
    pub no_magic : same (take 8 bytes) magic ≡ false → Err invalid_magic ≡ sections bytes
    unfolding sections
    no_magic m = rw (le-leb 72 (length bytes) long, m)

    module _ (marked : same (take 8 bytes) magic ≡ true) {v : ℕ} (read : v ≡ field 4 8 bytes) where
      pub other_version : (v ≡ 2 → ⊥) → Err (unsupported_version v) ≡ sections bytes
      unfolding sections
      other_version n = rw (le-leb 72 (length bytes) long, marked, ← read, ne_eqb v 2 n)

      module _ (two : v ≡ 2) {f : ℕ} (read_f : f ≡ field 4 12 bytes) where
        pub flags_set : (f ≡ 0 → ⊥) → Err (unsupported_flags f) ≡ sections bytes
        unfolding sections
        flags_set n = rw (le-leb 72 (length bytes) long, marked, ← read, eq-eqb v 2 two, ← read_f, ne_eqb f 0 n)

        pub on_to_ranges : f ≡ 0 → {r : (Answer Layout)} → Reads bytes (ranges bytes) r → Reads bytes (sections bytes) r
        unfolding sections
        on_to_ranges z w = rw (le-leb 72 (length bytes) long, marked, ← read, eq-eqb v 2 two, ← read_f, eq-eqb f 0 z) w

-- ---- what an answer shows, once the code has seen which it is

module _ {bytes : List ℕ} {answer : Answer Sections} {r : (Answer Layout)} (shown : Reads bytes answer r) where
  pub of_refusal : {x : Refusal} → r ≡ Err x → answer ≡ Err x
  of_refusal e = sym shown.reads ∙ ap (opening_means bytes) e

  pub of_layout : {l : Layout} → r ≡ Ok l → answer ≡ Ok (cut bytes l)
  of_layout e = sym shown.reads ∙ ap (opening_means bytes) e

  pub layout_order : {l : Layout} → r ≡ Ok l → SectionsFollow bytes l
  layout_order e = rw e at shown.ordered

  pub layout_numbers : {l : Layout} → r ≡ Ok l → l ≡ layout_in bytes
  layout_numbers e = rw e at shown.numbers
