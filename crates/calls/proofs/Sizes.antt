-- How long a segment of what is handed in is: the number that document 01's format gives.
-- Assumes nothing.
use Rattle.std.specs.Prelude.{None, Option, Some}
use mathlib.Core.Path.{◌≡◌, refl}
use mathlib.Core.List.{List, [], ◌∷◌}
use mathlib.Core.Bool.{Bool, true, false, cond}
use Prim.Native.Nat.{ℕ, zero, suc, ◌+◌, ◌*◌, ◌/◌, ◌%◌, ◌≤◌}
use lib.Dec.{ltb}
use native.Mathlib.Omega.{arith}
use lib.ListN.{length, length-append}
use Rattle.leb128.specs.Leb128.{encoded, chunks}
use Rattle.leb128.proofs.Shortest.{encoded_size}
use Rattle.segment.specs.Records.{Document, Posting, Term, gap}
use Rattle.calls.specs.Given.{Lists, given}
use Rattle.segment.specs.Written.{metadata_bytes, position_bytes, posting_bytes, postings_bytes, directory_bytes, name_bytes, lists_bytes}
use Rattle.segment.specs.Written.{segment_bytes}
use Rattle.calls.proofs.Lengths.{directory_length}
use Rattle.calls.specs.Claims.{PostingTakes}
use Rattle.calls.specs.Sizes.{number_size, documents_size, positions_size, postings_size, terms_size, segment_size}

documents_length : (previous : Option ℕ) (ds : List Document) → length (metadata_bytes previous ds) ≡ documents_size previous ds
unfolding metadata_bytes documents_size
documents_length previous [] = refl
documents_length previous (d ∷ ds) = simp length-append (omega (arith, documents_length (Some d.id) ds))

positions_length : (previous : Option ℕ) (ps : List ℕ) → length (position_bytes previous ps) ≡ positions_size previous ps
unfolding position_bytes positions_size
positions_length previous [] = refl
positions_length previous (p ∷ ps) = simp length-append (omega (arith, positions_length (Some p) ps))

postings_length : (previous : Option ℕ) (ps : List Posting) → length (postings_bytes previous ps) ≡ postings_size previous ps
unfolding postings_bytes posting_bytes postings_size
postings_length previous [] = refl
postings_length previous (p ∷ ps) =
    simp length-append (omega (arith, positions_length None p.positions, postings_length (Some p.doc) ps))

-- the three sections that grow with the terms
terms_length : (ts : List Term) (name_at list_at : ℕ)
    → length (directory_bytes name_at list_at ts) + length (name_bytes ts) + length (lists_bytes ts) ≡ terms_size ts
unfolding name_bytes lists_bytes terms_size
terms_length [] name_at list_at = omega (arith, directory_length [] name_at list_at)
terms_length (t ∷ ts) name_at list_at =
    simp length-append
    (omega (
      arith,
      directory_length (t ∷ ts) name_at list_at,
      directory_length ts 0 0,
      postings_length None t.postings,
      terms_length ts 0 0,
    ))

pub segment_length : (l : Lists) → length (segment_bytes (given l)) ≡ segment_size l
unfolding segment_bytes
segment_length l =
    simp length-append (omega (arith, terms_length (given l).terms 0 0, documents_length None (given l).documents))

-- ---- how many bytes a posting takes

some_bytes : (n x : ℕ) → 1 ≤ length (chunks n x)
unfolding chunks
some_bytes zero x = omega arith
some_bytes (suc n) x = either (ltb x 128)
  where
    either : (b : Bool) → 1 ≤ length (cond b (x ∷ []) ((x % 128 + 128) ∷ chunks n (x / 128)))
    either true = omega arith
    either false = omega arith

one_to_five : (x : ℕ) → (1 ≤ number_size x) × (number_size x ≤ 5)
unfolding encoded
one_to_five x = (some_bytes 4 x, encoded_size x)

positions_take : (previous : Option ℕ) (ps : List ℕ)
    → (length ps ≤ positions_size previous ps) × (positions_size previous ps ≤ 5 * length ps)
unfolding positions_size
positions_take previous [] = (omega arith, omega arith)
positions_take previous (p ∷ ps) =
    let n = one_to_five (gap previous p) in
    let more = positions_take (Some p) ps in
    (omega (arith, n, more), omega (arith, n, more))

pub posting_takes : PostingTakes
unfolding postings_size
posting_takes previous p =
    let d = one_to_five (gap previous p.doc) in
    let k = one_to_five (length p.positions) in
    let ps = positions_take None p.positions in
    (omega (arith, d, k, ps), omega (arith, d, k, ps))
