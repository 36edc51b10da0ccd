-- A directory that was written is read back, entry by entry.
-- Assumes nothing.
use Rattle.std.specs.Prelude.{None, Ok, Option, Some}
use mathlib.Core.Path.{◌≡◌, refl}
use mathlib.Core.Bool.{true}
use mathlib.Core.List.{List, [], ◌∷◌, ◌++◌, map, append_assoc}
use mathlib.Core.Logic.{inl, inr}
use Prim.Native.Nat.{ℕ, ◌+◌, ◌*◌, ◌^◌, ◌<◌}
use native.Mathlib.Omega.{arith}
use lib.ListN.{length, length-append}
use borrow.Author.Tests.{lt-ltb, eq-eqb}
use Rattle.crc32.specs.Crc32.{crc32_of}
use Rattle.utf8.proofs.Text.{grammar_agrees}
use Rattle.segment.specs.Refusals.{term_bytes, postings}
use Rattle.segment.specs.Records.{Document, Term}
use Rattle.segment.specs.Directory.{follows, read_list_range, read_entry, read_entries, directory}
use Rattle.segment.specs.Written.{list_bytes, entry_bytes, directory_bytes, name_bytes, lists_bytes}
use Rattle.calls.specs.Acceptance.{TermFine}
use Rattle.common.specs.Elements.{◌∈◌}
use Rattle.calls.proofs.Rising.{AfterName, name_head, name_tail}
use Rattle.calls.proofs.Accepted.{names_of}
use Rattle.roundtrip.proofs.Checksums.{crc_lt}
use Rattle.roundtrip.proofs.Front.{part_between}
use Rattle.roundtrip.proofs.NumbersBack.{fixed_back}
use Rattle.calls.proofs.Lengths.{directory_length}
use Rattle.roundtrip.proofs.PostingsBack.{entry_for}

-- an entry that stands in front of others; before and after it stand the names and the lists of other terms
module _ (documents : List Document) (t : Term) (f : TermFine documents t) (few : length t.postings < 2 ^ 32)
    (names_before names_after lists_before lists_after rest : List ℕ)
    (short_names : length (names_before ++ (t.name ++ names_after)) < 2 ^ 32)
    (short_lists : length (lists_before ++ (list_bytes t ++ lists_after)) < 2 ^ 64) where
  entry_back : (previous : Option (List ℕ)) → follows previous t.name ≡ true
      → read_entry previous
      (entry_bytes (length names_before) (length t.name) (length lists_before) (list_bytes t) (length t.postings) ++ rest)
      (names_before ++ (t.name ++ names_after)) (lists_before ++ (list_bytes t ++ lists_after))
      ≡ Ok (entry_for t)
  unfolding read_entry read_list_range
  entry_back previous later =
      let ln : length (names_before ++ (t.name ++ names_after))
      ≡ length names_before + (length t.name + length names_after) = simp length-append in
      let ll : length (lists_before ++ (list_bytes t ++ lists_after))
      ≡ length lists_before + (length (list_bytes t) + length lists_after) = simp length-append in
      rw (
        fixed_back 4 (length names_before) (omega arith),
        fixed_back 4 (length t.name) (omega arith),
        fixed_back 8 (length lists_before) (omega arith),
        fixed_back 8 (length (list_bytes t)) (omega arith),
        fixed_back 4 (length t.postings) few,
        fixed_back 4 (crc32_of (list_bytes t)) (crc_lt (list_bytes t)),
        part_between term_bytes names_before t.name names_after (length names_before) (length t.name) refl refl (omega arith),
        (grammar_agrees t.name).1 f.text,
        lt-ltb 0 (length t.name) f.not_empty,
        later,
        part_between postings lists_before (list_bytes t) lists_after (length lists_before) (length (list_bytes t)) refl refl short_lists,
        lt-ltb 0 (length t.postings) f.has_postings,
      )

module _ (documents : List Document) where
  entries_back : (ts : List Term) (previous : Option (List ℕ)) (names_before lists_before : List ℕ) → AfterName previous (names_of ts)
      → ((t : Term) → t ∈ ts → TermFine documents t) → ((t : Term) → t ∈ ts → length t.postings < 2 ^ 32)
      → length (names_before ++ name_bytes ts) < 2 ^ 32 → length (lists_before ++ lists_bytes ts) < 2 ^ 64
      → read_entries (length ts) previous (directory_bytes (length names_before) (length lists_before) ts)
      (names_before ++ name_bytes ts) (lists_before ++ lists_bytes ts) ≡ Ok (map entry_for ts)
  unfolding read_entries directory_bytes name_bytes lists_bytes
  entries_back [] previous np lp a f few hn hl = refl
  entries_back (t ∷ ts) previous np lp a f few hn hl =
      rw (
        entry_back documents t (f t (inl refl)) (few t (inl refl)) np (name_bytes ts) lp (lists_bytes ts)
            (directory_bytes (length np + length t.name) (length lp + length (list_bytes t)) ts) hn hl previous
            (name_head previous t.name (names_of ts) a),
        simp (length-append, append_assoc) at
            (entries_back ts (Some t.name) (np ++ t.name) (lp ++ list_bytes t) (name_tail previous t.name (names_of ts) a)
            (λ u m. f u (inr m)) (λ u m. few u (inr m)) (rw append_assoc hn) (rw append_assoc hl)),
      )

pub directory_back : (documents : List Document) (ts : List Term) → AfterName None (names_of ts)
    → ((t : Term) → t ∈ ts → TermFine documents t) → ((t : Term) → t ∈ ts → length t.postings < 2 ^ 32)
    → length (name_bytes ts) < 2 ^ 32 → length (lists_bytes ts) < 2 ^ 64
    → directory (length ts) (directory_bytes 0 0 ts) (name_bytes ts) (lists_bytes ts) ≡ Ok (map entry_for ts)
unfolding directory
directory_back documents ts a f few hn hl =
    rw (eq-eqb (length (directory_bytes 0 0 ts)) (32 * length ts) (directory_length ts 0 0))
    (entries_back documents ts None [] [] a f few hn hl)
