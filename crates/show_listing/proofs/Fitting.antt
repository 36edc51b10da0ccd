-- How long a listing can be: one with a line for each of as many documents as a segment has room for.
-- Assumes nothing.
use Rattle.segment.specs.Refusals.{numbers}
use Rattle.std.specs.Prelude.{Err, Ok}
use mathlib.Core.Path.{◌≡◌, refl, sym, ◌∙◌}
use mathlib.Core.List.{List, [], ◌∷◌, ◌++◌}
use Prim.Native.Nat.{ℕ, ◌*◌, ◌≤◌}
use native.Mathlib.Omega.{arith}
use lib.Dec.{leb}
use lib.ListN.{length, length-append}
use borrow.Author.Tests.{leb-true, le-leb}
use Rattle.segment.specs.declared.refusal.Refusal.{Refusal}
use Rattle.segment.specs.Results.{Answer}
use Rattle.segment.specs.Records.{Entry, Segment}
use Rattle.segment.proofs.Accepted.{check_gives}
use Rattle.read_lists.proofs.Taken.{Holds, segment_taken}
use Rattle.calls.specs.Listing.{column, name_column, count_line, document_lines, entry_line, entry_lines, refusal_line, text_of, listable}
use Rattle.calls.specs.Listing.{listing, list_into}
use Rattle.show_listing.specs.Promise.{ListedInto, ListedWhole}
use Rattle.show_listing.specs.Claims.{ListingFits}
use Rattle.show_columns.proofs.Columns.{column_most}
use Rattle.show_columns.proofs.Names.{name_most}
use Rattle.show_listing.proofs.Texts.{pair_length, document_lines_length}

refusal_most : (x : Refusal) → length (refusal_line x) ≤ 61
unfolding refusal_line
refusal_most x =
    let one = column (numbers x).kind in
    let two = column (numbers x).which in
    let three = column (numbers x).index in
    omega (
      arith,
      column_most (numbers x).kind,
      column_most (numbers x).which,
      column_most (numbers x).index,
      length-append one two,
      length-append (one ++ two) three,
      length-append (one ++ two ++ three) (10 ∷ []),
    )

entry_most : (e : Entry) → length (entry_line e) ≤ 85
unfolding entry_line
entry_most e =
    let name = name_column 16 e.name in
    omega (
      arith,
      name_most 16 e.name,
      column_most e.df,
      length-append name (column e.df),
      length-append (name ++ column e.df) (10 ∷ []),
    )

entries_most : (es : List Entry) → length (entry_lines es) ≤ 85 * length es
unfolding entry_lines
entries_most [] = omega arith
entries_most (e ∷ es) = omega (arith, entry_most e, entries_most es, length-append (entry_line e) (entry_lines es))

segment_most : (bytes : List ℕ) (s : Segment) → length bytes ≤ 65536 → Holds bytes s → length (text_of (Ok s)) ≤ 687393
unfolding count_line
segment_most bytes s h (rising, taken) =
    let documents = document_lines s.documents in
    omega (
      arith,
      pair_length (length s.documents) (length s.entries) (omega arith) (omega arith),
      document_lines_length 0 s.documents rising,
      entries_most s.entries,
      length-append (count_line s) documents,
      length-append (count_line s ++ documents) (entry_lines s.entries),
    )

text_most : (bytes : List ℕ) (r : Answer Segment) → listable bytes ≡ r → length (text_of r) ≤ 687393
unfolding listable
text_most bytes (Err x) e = omega (arith, refusal_most x)
text_most bytes (Ok s) e =
    let (small, f) = check_gives (leb (length bytes) 65536) _ _ e in
    segment_most bytes s (leb-true _ _ small) (segment_taken bytes f)

pub listing_fits : ListingFits
unfolding listing
listing_fits bytes = text_most bytes (listable bytes) refl

-- with room for every listing, what the reply says
module _ {bytes out out' : List ℕ} {r : Answer ℕ} (l : ListedInto bytes out r out') (room : 687393 ≤ length out) where
  all_listed : list_into bytes (length out) ≡ Ok (listing bytes)
  unfolding list_into
  all_listed = rw (le-leb (length (listing bytes)) (length out) (omega (arith, listing_fits bytes)))

  counted : r ≡ Ok (length (listing bytes))
  counted = rw all_listed at l.reply

  pub listed_whole : {k : ℕ} → r ≡ Ok k → ListedWhole bytes out k out'
  listed_whole {k} e =
      let f : ◌≡◌ {A = Answer ℕ} (Ok k) (Ok (length (listing bytes))) = sym e ∙ counted in
      record { reply = cc; left = rw all_listed at l.left }

  pub none_refused : {P : Type 0} {x : Refusal} → r ≡ Err x → P
  none_refused {P} {x} e =
      let f : Err x ≡ Ok (length (listing bytes)) = sym e ∙ counted in
      let z : ◌≡◌ {A = ℕ} 0 1 = cc in
      absurd (omega arith)
