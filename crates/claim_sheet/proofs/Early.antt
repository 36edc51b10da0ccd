-- Opening and decoding refuse with kinds up to 10: 12, 13, 16 and 17 are none of theirs.
-- Assumes nothing.
use Rattle.segment.specs.declared.refusal.Section.{Section}
use Rattle.std.specs.Prelude.{Err, None, Ok, Option, Some}
use mathlib.Core.Path.{◌≡◌, refl}
use mathlib.Core.Bool.{Bool, true, false}
use mathlib.Core.List.{List, [], ◌∷◌}
use Prim.Native.Nat.{ℕ, zero, suc, ◌+◌, ◌*◌, ◌^◌, ◌<◌}
use native.Mathlib.Omega.{arith}
use lib.Dec.{ltb, leb, eqb}
use lib.ListN.{length, take, drop}
use Rattle.leb128.specs.Leb128.{Leb, stored}
use Rattle.crc32.specs.Crc32.{crc32_of}
use Rattle.utf8.specs.Utf8.{utf8}
use Rattle.segment.specs.declared.refusal.Refusal.{Refusal}
use Rattle.segment.specs.Refusals.{numbers, postings, document_metadata}
use Rattle.segment.specs.Results.{Answer, ◌>>=◌, check}
use Rattle.segment.specs.Records.{Document, Entry, field, header_size, entry_size, number, number_or, at_gap, rises}
use Rattle.segment.specs.Names.{same}
use Rattle.segment.specs.Metadata.{read_document, read_documents, metadata, length_of}
use Rattle.segment.specs.Directory.{part, follows, read_list_range, read_entry, read_entries, directory}
use Rattle.segment.specs.Postings.{known, read_value, read_position, read_positions, read_head, read_posting, read_postings}
use Rattle.segment.specs.Postings.{all_postings, decode}
use Rattle.segment.specs.Opening.{magic, Sections, ranges, sections, section_checksum, checksums, contents, open_segment}
use Rattle.segment.specs.Contents.{decode_all}

-- the kind of a refusal is below 11
pub record Early {A : Type 0} (r : Answer A) : Type 0 where
  pub kind : (x : Refusal) → r ≡ Err x → (numbers x).kind < 11

accepts : {A : Type 0} {a : A} → Early (Ok a)
accepts = record { kind = λ x e. let z : ◌≡◌ {A = ℕ} 0 1 = cc in absurd (omega arith) }

refuses : {A : Type 0} (x : Refusal) → (numbers x).kind < 11 → Early {A = A} (Err x)
refuses x h = record { kind = λ y e. let same : x ≡ y = cc in rw (← same) h }

then : {A B : Type 0} {r : Answer A} (f : A → Answer B) → Early r → ((a : A) → Early (f a)) → Early (r >>= f)
then {r = Ok a} f e h = h a
then {r = Err x} f e h = refuses x (e.kind x refl)

test : {B : Type 0} (t : Bool) (x : Refusal) (f : Unit {0} → Answer B) → (numbers x).kind < 11 → Early (f tt) → Early (check t x >>= f)
test true x f h e = e
test false x f h e = refuses x h

last : (t : Bool) (x : Refusal) → (numbers x).kind < 11 → Early (check t x)
last true x h = accepts
last false x h = refuses x h

-- ---- numbers and parts

a_number : (section : Section) (index : ℕ) (bytes : List ℕ) → Early (number section index bytes)
a_number section index bytes = go (stored bytes)
  where
    go : (o : Option Leb) → Early (number_or section index bytes o)
    go None = refuses _ (omega arith)
    go (Some n) = accepts

a_part : (section : Section) (at n : ℕ) (whole : List ℕ) → Early (part section at n whole)
unfolding part
a_part section at n whole =
    test (ltb (at + n) (2 ^ 64)) _ _ (omega arith)
    (test (leb (at + n) (length whole)) _ _ (omega arith) accepts)

-- ---- opening

a_document : (place : ℕ) (previous : Option ℕ) (bytes : List ℕ) → Early (read_document place previous bytes)
unfolding read_document
a_document place previous bytes =
    then _ (a_number document_metadata place bytes) (λ gap.
    then _ (a_number document_metadata place gap.rest) (λ len.
    test (ltb (at_gap previous gap.got) (2 ^ 32)) _ _ (omega arith)
    (test (rises previous (at_gap previous gap.got)) _ _ (omega arith) accepts)))

some_documents : (count place : ℕ) (previous : Option ℕ) (bytes : List ℕ) → Early (read_documents count place previous bytes)
unfolding read_documents
some_documents zero place previous bytes = accepts
some_documents (suc n) place previous bytes =
    then _ (a_document place previous bytes) (λ d.
    then _ (some_documents n (suc place) (Some d.got.id) d.rest) (λ more. accepts))

all_documents : (count : ℕ) (bytes : List ℕ) → Early (metadata count bytes)
unfolding metadata
all_documents count bytes =
    then _ (some_documents count 0 None bytes) (λ all. test (eqb (length all.rest) 0) _ _ (omega arith) accepts)

an_entry : (previous : Option (List ℕ)) (bytes names lists : List ℕ) → Early (read_entry previous bytes names lists)
unfolding read_entry read_list_range
an_entry previous bytes names lists =
    then _ (a_part _ _ _ _) (λ name.
    test (utf8 name) _ _ (omega arith)
    (test (ltb 0 (length name)) _ _ (omega arith)
    (test (follows previous name) _ _ (omega arith)
    (then _ (then _ (a_part _ _ _ _) (λ list. test (ltb 0 (field 4 24 bytes)) _ _ (omega arith) accepts)) (λ list. accepts)))))

some_entries : (count : ℕ) (previous : Option (List ℕ)) (bytes names lists : List ℕ) → Early (read_entries count previous bytes names lists)
unfolding read_entries
some_entries zero previous bytes names lists = accepts
some_entries (suc n) previous bytes names lists =
    then _ (an_entry previous bytes names lists) (λ e.
    then _ (some_entries n (Some e.name) (drop entry_size bytes) names lists) (λ more. accepts))

all_entries : (count : ℕ) (bytes names lists : List ℕ) → Early (directory count bytes names lists)
unfolding directory
all_entries count bytes names lists =
    test (eqb (length bytes) (entry_size * count)) _ _ (omega arith) (some_entries count None bytes names lists)

the_ranges : (bytes : List ℕ) → Early (ranges bytes)
unfolding ranges
the_ranges bytes =
    then _ (a_part _ _ _ _) (λ dir.
    then _ (a_part _ _ _ _) (λ names.
    then _ (a_part _ _ _ _) (λ metadata.
    then _ (a_part _ _ _ _) (λ lists.
    test (eqb (header_size + field 8 24 bytes + field 8 32 bytes + field 8 40 bytes + field 8 48 bytes) (length bytes)) _ _ (omega arith)
    accepts))))

the_sections : (bytes : List ℕ) → Early (sections bytes)
unfolding sections
the_sections bytes =
    test (leb header_size (length bytes)) _ _ (omega arith)
    (test (same (take 8 bytes) magic) _ _ (omega arith)
    (test (eqb (field 4 8 bytes) 2) _ _ (omega arith)
    (test (eqb (field 4 12 bytes) 0) _ _ (omega arith)
    (the_ranges bytes))))

a_checksum : (section : Section) (part : List ℕ) (at : ℕ) (bytes : List ℕ) → Early (section_checksum section part at bytes)
unfolding section_checksum
a_checksum section part at bytes = last (eqb (crc32_of part) (field 4 at bytes)) _ (omega arith)

the_checksums : (bytes : List ℕ) (s : Sections) → Early (checksums bytes s)
unfolding checksums
the_checksums bytes s =
    then _ (a_checksum _ _ _ _) (λ _. then _ (a_checksum _ _ _ _) (λ _. then _ (a_checksum _ _ _ _) (λ _. a_checksum _ _ _ _)))

pub opening_early : (bytes : List ℕ) → Early (open_segment bytes)
unfolding open_segment contents
opening_early bytes =
    then _ (the_sections bytes) (λ s.
    then _ (the_checksums bytes s) (λ _.
    then _ (all_documents s.documents s.metadata) (λ documents.
    then _ (all_entries s.terms s.directory s.names s.lists) (λ entries. accepts))))

-- ---- decoding

a_value : (overflow order : Refusal) → (numbers overflow).kind < 11 → (numbers order).kind < 11
    → (index : ℕ) (previous : Option ℕ) (bytes : List ℕ) → Early (read_value overflow order index previous bytes)
unfolding read_value
a_value overflow order h k index previous bytes =
    then _ (a_number postings index bytes) (λ gap.
    test (ltb (at_gap previous gap.got) (2 ^ 32)) _ _ h
    (test (rises previous (at_gap previous gap.got)) _ _ k accepts))

some_positions : (count index len : ℕ) (previous : Option ℕ) (bytes : List ℕ) → Early (read_positions count index len previous bytes)
unfolding read_positions read_position
some_positions zero index len previous bytes = accepts
some_positions (suc n) index len previous bytes =
    then _
    (then _ (a_value _ _ (omega arith) (omega arith) index previous bytes) (λ p. test (ltb p.got len) _ _ (omega arith) accepts))
    (λ p. then _ (some_positions n (suc index) len (Some p.got) p.rest) (λ more. accepts))

a_length : (o : Option ℕ) → Early (known o)
a_length None = refuses _ (omega arith)
a_length (Some len) = accepts

module _ (documents : List Document) where
  a_posting : (place : ℕ) (previous : Option ℕ) (bytes : List ℕ) → Early (read_posting place documents previous bytes)
  unfolding read_posting read_head
  a_posting place previous bytes =
      then _
      (then _ (a_value _ _ (omega arith) (omega arith) place previous bytes) (λ doc.
      then _ (a_length (length_of documents doc.got)) (λ len.
      then _ (a_number postings place doc.rest) (λ count. test (ltb 0 count.got) _ _ (omega arith) accepts))))
      (λ head. then _ (some_positions head.got.count place head.got.len None head.rest) (λ all. accepts))

  some_postings : (count place : ℕ) (previous : Option ℕ) (bytes : List ℕ) → Early (read_postings count place documents previous bytes)
  unfolding read_postings
  some_postings zero place previous bytes = accepts
  some_postings (suc n) place previous bytes =
      then _ (a_posting place previous bytes) (λ p.
      then _ (some_postings n (suc place) (Some p.got.doc) p.rest) (λ more. accepts))

  a_list : (e : Entry) → Early (decode documents e)
  unfolding decode all_postings
  a_list e =
      test (eqb (crc32_of e.list) e.checksum) _ _ (omega arith)
      (then _ (some_postings e.df 0 None e.list) (λ all. test (eqb (length all.rest) 0) _ _ (omega arith) accepts))

  pub decoding_early : (es : List Entry) → Early (decode_all documents es)
  unfolding decode_all
  decoding_early [] = accepts
  decoding_early (e ∷ es) = then _ (a_list e) (λ ps. then _ (decoding_early es) (λ more. accepts))
