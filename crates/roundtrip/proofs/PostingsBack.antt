-- A posting list that was written is decoded to the postings handed in.
-- Assumes nothing.
use Rattle.std.specs.Prelude.{None, Ok, Option, Some}
use mathlib.Core.Path.{◌≡◌, refl}
use mathlib.Core.Bool.{true}
use mathlib.Core.List.{List, [], ◌∷◌, ◌++◌, map, append_assoc, append-nil}
use mathlib.Core.Logic.{inl, inr}
use Prim.Native.Nat.{ℕ, suc, ◌^◌, ◌<◌}
use native.Mathlib.Omega.{arith}
use lib.ListN.{length}
use borrow.Author.Tests.{lt-ltb, eq-eqb}
use Rattle.leb128.specs.Leb128.{encoded}
use Rattle.crc32.specs.Crc32.{crc32_of}
use Rattle.segment.specs.declared.refusal.Refusal.{Refusal}
use Rattle.segment.specs.Refusals.{postings}
use Rattle.segment.specs.Records.{Document, Posting, Term, Entry, rises, gap}
use Rattle.segment.specs.Metadata.{length_of}
use Rattle.segment.specs.Postings.{read_value, read_position, read_positions, read_head, read_posting, read_postings, all_postings, decode}
use Rattle.segment.specs.Written.{position_bytes, posting_bytes, postings_bytes, list_bytes}
use Rattle.calls.specs.Acceptance.{PostingFine, TermFine}
use Rattle.common.specs.Elements.{◌∈◌, Rising}
use Rattle.segment.specs.Contents.{decode_all}
use Rattle.segment.proofs.After.{After, after_head, after_tail}
use Rattle.calls.proofs.Known.{known_from}
use Rattle.calls.proofs.Accepted.{ids, docs}
use Rattle.roundtrip.proofs.Front.{number_back}
use Rattle.roundtrip.proofs.NumbersBack.{gap_back, gap_lt}
use Rattle.roundtrip.proofs.MetadataBack.{NumbersFit}

value_back : (over order : Refusal) (index : ℕ) (previous : Option ℕ) (v : ℕ) (rest : List ℕ) → rises previous v ≡ true → v < 2 ^ 32
    → read_value over order index previous (encoded (gap previous v) ++ rest) ≡ Ok (record { got = v; rest = rest })
unfolding read_value
value_back over order index previous v rest up small =
    rw (
      number_back postings index (gap previous v) rest (gap_lt previous v (2 ^ 32) small),
      gap_back previous v up,
      lt-ltb v
          (2 ^ 32) small,
      up,
    )

-- the directory entry of a term
abbrev pub entry_for : Term → Entry
entry_for t = record { name = t.name; list = list_bytes t; df = length t.postings; checksum = crc32_of (list_bytes t) }

-- no posting has more positions than a number can say
abbrev pub Few : Term → Type 0
Few t = (p : Posting) → p ∈ t.postings → length p.positions < 2 ^ 32

-- ---- positions

positions_back : (len : ℕ) → len < 2 ^ 32 → (ps : List ℕ) (previous : Option ℕ) (index : ℕ) (rest : List ℕ)
    → After previous ps → ((x : ℕ) → x ∈ ps → x < len)
    → read_positions (length ps) index len previous (position_bytes previous ps ++ rest) ≡ Ok (record { got = ps; rest = rest })
unfolding read_positions read_position position_bytes
positions_back len h [] previous index rest a f = refl
positions_back len h (p ∷ ps) previous index rest a f =
    let inside = f p (inl refl) in
    rw (
      append_assoc,
      value_back _ _ index previous p (position_bytes (Some p) ps ++ rest) (after_head previous p ps a) (omega arith),
      lt-ltb p len inside,
      positions_back len h ps (Some p) (suc index) rest (after_tail previous p ps a) (λ x m. f x (inr m)),
    )

-- ---- postings

module _ (documents : List Document) (rise : Rising (ids documents)) (small : NumbersFit documents) where
  posting_back : (place : ℕ) (previous : Option ℕ) (p : Posting) (rest : List ℕ) → rises previous p.doc ≡ true
      → PostingFine documents p → length p.positions < 2 ^ 32
      → read_posting place documents previous (posting_bytes previous p ++ rest) ≡ Ok (record { got = p; rest = rest })
  unfolding read_posting read_head posting_bytes
  posting_back place previous p rest up f few =
      let d = small f.of f.known in
      let is : length_of documents p.doc ≡ Some f.of.len = rw (← f.same) (known_from documents rise f.of f.known) in
      simp append_assoc
      (rw (
        value_back _ _ place previous p.doc (encoded (length p.positions) ++ (position_bytes None p.positions ++ rest)) up
            (rw f.same at d.0),
        is,
        number_back postings place (length p.positions) (position_bytes None p.positions ++ rest) few,
        lt-ltb 0 (length p.positions) f.has_positions,
        positions_back f.of.len d.1 p.positions None place rest f.rising f.inside,
      ))

  postings_back : (ps : List Posting) (previous : Option ℕ) (place : ℕ) (rest : List ℕ) → After previous (docs ps)
      → ((p : Posting) → p ∈ ps → PostingFine documents p) → ((p : Posting) → p ∈ ps → length p.positions < 2 ^ 32)
      → read_postings (length ps) place documents previous (postings_bytes previous ps ++ rest) ≡ Ok (record { got = ps; rest = rest })
  unfolding read_postings postings_bytes
  postings_back [] previous place rest a f few = refl
  postings_back (p ∷ ps) previous place rest a f few =
      rw (
        append_assoc,
        posting_back place previous p (postings_bytes (Some p.doc) ps ++ rest) (after_head previous p.doc (docs ps) a)
            (f p (inl refl)) (few p (inl refl)),
        postings_back ps (Some p.doc) (suc place) rest (after_tail previous p.doc (docs ps) a) (λ q m. f q (inr m))
            (λ q m. few q (inr m)),
      )

  -- ---- a term's list, and all of them

  pub list_back : (t : Term) → TermFine documents t → Few t → decode documents (entry_for t) ≡ Ok t.postings
  unfolding decode all_postings
  list_back t f few =
      rw (
        eq-eqb (crc32_of (list_bytes t)) (crc32_of (list_bytes t)) refl,
        ← (append-nil (list_bytes t)),
        postings_back t.postings None 0 [] f.rising f.each few,
      )

  pub lists_back : (ts : List Term) → ((t : Term) → t ∈ ts → TermFine documents t) → ((t : Term) → t ∈ ts → Few t)
      → decode_all documents (map entry_for ts) ≡ Ok ts
  unfolding decode_all
  lists_back [] f few = refl
  lists_back (t ∷ ts) f few =
      rw (list_back t (f t (inl refl)) (few t (inl refl)), lists_back ts (λ u m. f u (inr m)) (λ u m. few u (inr m)))
