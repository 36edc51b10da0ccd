-- One document in a decoded list: it is named at most once, so that its positions in all postings are those of its own posting; they rise
-- below its length, so that it has no more of them.
-- Assumes nothing.
use Rattle.std.specs.Prelude.{None, Ok, Option, Some}
use mathlib.Core.Path.{◌≡◌, refl, sym, ◌∙◌}
use mathlib.Core.Bool.{Bool, true, false, cond}
use mathlib.Core.List.{List, [], ◌∷◌, map}
use Prim.Native.Nat.{ℕ, suc, ◌+◌, ◌-◌, ◌≤◌}
use native.Mathlib.Omega.{arith}
use lib.Dec.{eqb}
use lib.ListN.{length}
use borrow.Author.Tests.{ltb-true, eqb-true, ne_eqb}
use Rattle.crc32.specs.Crc32.{crc32_of}
use Rattle.segment.specs.Records.{Document, Posting, Entry, rises}
use Rattle.segment.specs.Metadata.{length_of}
use Rattle.segment.specs.Postings.{decode}
use Rattle.segment.proofs.Accepted.{check_gives}
use Rattle.segment.proofs.Within.{AllBelow}
use Rattle.calls.specs.Lookups.{positions_of}
use Rattle.calls.proofs.Below.{decoded_below}
use Rattle.read_cursors.specs.Held.{PostingAt, held_postings, positions_there, posting_of, Rises, AllFull}
use Rattle.read_cursors.proofs.PostingReads.{all_postings_read}
use Rattle.read_cursors.proofs.Rising.{above}
use Rattle.read_lists.specs.Steps.{positions_in, tallied_in}
use Rattle.read_terms.proofs.Finding.{tally_ok}

-- none after a later document
none_in : (doc previous : ℕ) (ss : List PostingAt) → AllFull (Some previous) ss → doc ≤ previous
    → positions_in doc (map posting_of ss) ≡ 0
unfolding positions_in
none_in doc previous [] f h = refl
none_in doc previous (s ∷ ss) f h =
    let up = ltb-true previous s.doc f.0 in
    let later = none_in doc s.doc ss f.2 (omega arith) in
    rw (ne_eqb s.doc doc (λ e. omega arith)) (omega arith)

in_one : (doc : ℕ) (previous : Option ℕ) (ss : List PostingAt) → AllFull previous ss
    → positions_in doc (map posting_of ss) ≡ length (positions_of (map posting_of ss) doc)
unfolding positions_in positions_of
in_one doc previous [] f = refl
in_one doc previous (s ∷ ss) f = step (eqb s.doc doc) refl (in_one doc (Some s.doc) ss f.2)
  where
    step : (t : Bool) → eqb s.doc doc ≡ t → positions_in doc (map posting_of ss) ≡ length (positions_of (map posting_of ss) doc)
        → cond t (length (positions_there s)) 0 + positions_in doc (map posting_of ss)
        ≡ length (cond t (positions_there s) (positions_of (map posting_of ss) doc))
    step true e later =
        let is = eqb-true s.doc doc e in
        omega (arith, none_in doc s.doc ss f.2 (omega arith))
    step false e later = omega arith

pub decoded_in : (doc : ℕ) (documents : List Document) (e : Entry) {ps : List Posting} → decode documents e ≡ Ok ps
    → positions_in doc ps ≡ length (positions_of ps doc)
unfolding decode
decoded_in doc documents e is =
    let walk = all_postings_read e.df documents e.list (check_gives (eqb (crc32_of e.list) e.checksum) _ _ is).1 in
    rw (← walk.is) (in_one doc None (held_postings e.df None e.list) walk.full)

-- a list that was decoded for one document
pub told_in : (doc : ℕ) (documents : List Document) (e : Entry) {n : ℕ} → Ok n ≡ tallied_in doc (decode documents e)
    → (ps : List Posting) × (decode documents e ≡ Ok ps) × (length (positions_of ps doc) ≡ n)
told_in doc documents e told =
    let (ps, is, many) = tally_ok (positions_in doc) _ told in
    (ps, is, sym (decoded_in doc documents e is) ∙ many)

-- ---- as many as the document has positions at most

rises_least : (previous : Option ℕ) (x : ℕ) → rises previous x ≡ true → above previous ≤ x
rises_least None x e = omega arith
rises_least (Some p) x e = omega (arith, ltb-true p x e)

-- numbers that rise below a length
below_few : (len : ℕ) (previous : Option ℕ) (xs : List ℕ) → Rises previous xs → AllBelow len xs → length xs ≤ len - above previous
below_few len previous [] r b = omega arith
below_few len previous (x ∷ xs) (r, rs) (b, bs) =
    let rest : length xs ≤ len - suc x = below_few len (Some x) xs rs bs in
    omega (arith, rises_least previous x r)

full_rises : (id : ℕ) (previous : Option ℕ) (ss : List PostingAt) → AllFull previous ss
    → Rises None (positions_of (map posting_of ss) id)
unfolding positions_of
full_rises id previous [] f = tt
full_rises id previous (s ∷ ss) (r, f, fs) = by (eqb s.doc id) (full_rises id (Some s.doc) ss fs)
  where
    by : (t : Bool) → Rises None (positions_of (map posting_of ss) id)
        → Rises None (cond t (posting_of s).positions (positions_of (map posting_of ss) id))
    by true later = f.rise
    by false later = later

pub own_few : (documents : List Document) (id len : ℕ) → length_of documents id ≡ Some len → (e : Entry) {ps : List Posting}
    → decode documents e ≡ Ok ps
    → length (positions_of ps id) ≤ len
unfolding decode
own_few documents id len known e {ps} d =
    let below = decoded_below documents id len known e d in
    let read = all_postings_read e.df documents e.list (check_gives (eqb (crc32_of e.list) e.checksum) _ _ d).1 in
    let rising : Rises None (positions_of ps id) =
    rw read.is at (full_rises id None (held_postings e.df None e.list) read.full) in
    omega (arith, below_few len None (positions_of ps id) rising below)
