-- How long the bytes of a section are, or are at most.
-- Assumes nothing.
use Rattle.std.specs.Prelude.{None, Option, Some}
use mathlib.Core.Path.{◌≡◌, refl, ap}
use mathlib.Core.List.{List, [], ◌∷◌, ◌++◌, map}
use Prim.Native.Nat.{ℕ, ◌+◌, ◌*◌, ◌≤◌}
use native.Mathlib.Nat.{zero-add}
use native.Mathlib.Omega.{arith}
use lib.ListN.{length, take, drop, length-append, length-map, length-take, length-drop, take-append-drop}
use Rattle.leb128.proofs.Shortest.{encoded_size}
use Rattle.segment.specs.Records.{Document, Posting, Term, between, gap}
use Rattle.segment.specs.Metadata.{document}
use Rattle.segment.specs.Postings.{total_positions}
use Rattle.calls.specs.Given.{Lists, given, laid_flat, postings_in}
use Rattle.common.specs.Lists.{joined, paired}
use Rattle.segment.specs.Written.{metadata_bytes, position_bytes, posting_bytes, postings_bytes, list_bytes, directory_bytes, lists_bytes}
use Rattle.calls.specs.Acceptance.{Small, Shape}
use Rattle.calls.proofs.Flat.{flat_again}

pub part_size : (from to : ℕ) (l : List ℕ) → length (between from to l) ≤ length l
part_size from to l = simp (length-take, length-drop) (omega arith)

-- 32 bytes for each term
pub directory_length : (ts : List Term) (name_at list_at : ℕ) → length (directory_bytes name_at list_at ts) ≡ 32 * length ts
unfolding directory_bytes
directory_length [] name_at list_at = refl
directory_length (t ∷ ts) name_at list_at =
    omega (arith, directory_length ts (name_at + length t.name) (list_at + length (list_bytes t)))

-- 5 bytes for each number
pub metadata_size : (previous : Option ℕ) (ds : List Document) → length (metadata_bytes previous ds) ≤ 10 * length ds
unfolding metadata_bytes
metadata_size previous [] = omega arith
metadata_size previous (d ∷ ds) =
    simp length-append
    (omega (arith, encoded_size (gap previous d.id), encoded_size d.len, metadata_size (Some d.id) ds))

pub positions_size : (previous : Option ℕ) (ps : List ℕ) → length (position_bytes previous ps) ≤ 5 * length ps
unfolding position_bytes
positions_size previous [] = omega arith
positions_size previous (p ∷ ps) = simp length-append (omega (arith, encoded_size (gap previous p), positions_size (Some p) ps))

postings_size : (previous : Option ℕ) (ps : List Posting) → length (postings_bytes previous ps) ≤ 10 * length ps + 5 * total_positions ps
unfolding postings_bytes posting_bytes total_positions
postings_size previous [] = omega arith
postings_size previous (p ∷ ps) =
    simp length-append
    (omega (
      arith,
      encoded_size (gap previous p.doc),
      encoded_size (length p.positions),
      positions_size None p.positions,
      postings_size (Some p.doc) ps,
    ))

-- all positions of postings, as they are counted
abbrev pub all_positions : List Posting → List ℕ
all_positions ps = joined (map (λ p. p.positions) ps)

pub total_is : (ps qs : List Posting) → total_positions ps + length (all_positions qs) ≡ length (all_positions (ps ++ qs))
unfolding total_positions
total_is [] qs = zero-add (length (all_positions qs))
total_is (p ∷ ps) qs = simp length-append (omega (arith, total_is ps qs))

abbrev postings_of : List Term → List Posting
postings_of ts = joined (map (λ t. t.postings) ts)

lists_size : (ts : List Term) → length (lists_bytes ts) ≤ 10 * length (postings_of ts) + 5 * length (all_positions (postings_of ts))
unfolding lists_bytes
lists_size [] = omega arith
lists_size (t ∷ ts) =
    simp length-append (omega (arith, postings_size None t.postings, lists_size ts, total_is t.postings (postings_of ts)))

-- all lists of what was handed in
pub lists_small : (l : Lists) → Small l → Shape l → length (lists_bytes (given l).terms) ≤ 251658240
unfolding laid_flat
lists_small l small shape =
    omega (
      arith,
      lists_size (given l).terms,
      length-map (postings_of (given l).terms) (λ p. p.doc),
      ap (λ (k : Lists). length k.posting_ids) (flat_again l shape),
      ap (λ (k : Lists). length k.positions) (flat_again l shape),
    )

-- ---- the same over flat lists

paired_size : {A B C : Type 0} (f : A → B → C) (xs : List A) (ys : List B) → length (paired f xs ys) ≤ length xs
paired_size f [] ys = omega arith
paired_size f (x ∷ xs) [] = omega arith
paired_size f (x ∷ xs) (y ∷ ys) = omega (arith, paired_size f xs ys)

pub flat_metadata_size : (ids lengths : List ℕ) → length (metadata_bytes None (paired document ids lengths)) ≤ 10 * length ids
flat_metadata_size ids lengths = omega (arith, metadata_size None (paired document ids lengths), paired_size document ids lengths)

pub flat_postings_size : (previous : Option ℕ) (ids counts positions : List ℕ)
    → length (postings_bytes previous (postings_in ids counts positions)) ≤ 10 * length counts + 5 * length positions
unfolding postings_bytes posting_bytes
flat_postings_size previous [] counts positions = omega arith
flat_postings_size previous (d ∷ ds) [] positions = omega arith
flat_postings_size previous (d ∷ ds) (c ∷ cs) positions =
    simp length-append
    (omega (
      arith,
      encoded_size (gap previous d),
      encoded_size (length (take c positions)),
      positions_size None (take c positions),
      flat_postings_size (Some d) ds cs (drop c positions),
      length-append (take c positions) (drop c positions),
      ap length (take-append-drop c positions),
    ))
