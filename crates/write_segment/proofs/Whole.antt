-- The sections stored each at its offset, and the header over them, are the segment.
-- Assumes nothing.
use Rattle.std.specs.Prelude.{Err, None, Ok}
use mathlib.Core.Path.{◌≡◌, refl, sym, ap, ◌∙◌}
use mathlib.Core.List.{List, ◌++◌}
use Prim.Native.Nat.{ℕ, ◌+◌, ◌*◌, ◌≤◌, ◌<◌}
use native.Mathlib.Omega.{arith}
use borrow.Author.Tests.{le-leb, lt-leb}
use lib.ListN.{length, drop, length-append}
use lib.Seq.{sets, length-sets}
use Rattle.crc32.specs.Crc32.{crc32_of}
use Rattle.common.proofs.Sets.{sets_append, sets_front}
use Rattle.segment.specs.Records.{Document, Term, Given, between}
use Rattle.segment.specs.declared.refusal.Refusal.{Refusal}
use Rattle.segment.specs.Refusals.{no_room}
use Rattle.segment.specs.Steps.{checked}
use Rattle.calls.specs.Writing.{write}
use Rattle.calls.specs.Checks.{check_lists}
use Rattle.write_frame.specs.declared.frame.Offsets.{Offsets}
use Rattle.calls.specs.Given.{Lists, given}
use Rattle.segment.specs.Written.{directory_bytes, name_bytes, metadata_bytes, lists_bytes, header_bytes, with_header, segment_bytes}
use Rattle.calls.specs.Acceptance.{Shape}
use Rattle.common.specs.Stores.{Stored}
use Rattle.write_segment.specs.Steps.{TermsStored, SegmentRoom, SegmentStored}
use Rattle.write_frame.specs.Steps.{HeaderRoom, HeaderStored}
use Rattle.write_segment.specs.Promise.{Wrote}
use Rattle.segment.proofs.Accepted.{passed_ok, refused_is}
use Rattle.calls.proofs.Passing.{shaped_gives}
use Rattle.calls.proofs.Flat.{text_is, documents_count, terms_count}
use Rattle.calls.proofs.Lengths.{directory_length}
use Rattle.common.proofs.Stores.{stored_append, stored_length}
use Rattle.write_segment.proofs.Sets.{sets_comm, between_stored, between_before, between_after}

four_lengths : (a b c d : List ℕ) → length (a ++ (b ++ (c ++ d))) ≡ length a + (length b + (length c + length d))
four_lengths a b c d = simp length-append

module _ (out directory names metadata lists : List ℕ) (n m p e : ℕ) where
  -- where the sections start and end
  pub record Placed : Type 0 where
    pub names_at : n ≡ 72 + length directory
    pub metadata_at : m ≡ n + length names
    pub lists_at : p ≡ m + length metadata
    pub end_at : e ≡ p + length lists
    pub room : e ≤ length out

  abbrev with_lists : List ℕ
  with_lists = sets out p lists

  abbrev with_directory : List ℕ
  with_directory = sets with_lists 72 directory

  abbrev with_names : List ℕ
  with_names = sets with_directory n names

  abbrev pub laid : List ℕ
  laid = sets with_names m metadata

  abbrev body : List ℕ
  body = directory ++ (names ++ (metadata ++ lists))

  module _ (k : Placed) where
    -- each section is read again
    directory_there : between 72 n laid ≡ directory
    directory_there =
        between_before with_names m metadata 72 n (omega arith) (omega arith)
        ∙ between_before with_directory n names 72 n (omega arith) (omega arith)
        ∙ between_stored with_lists 72 directory k.names_at (omega (arith, length-sets out p lists))

    names_there : between n m laid ≡ names
    names_there =
        between_before with_names m metadata n m (omega arith) (omega arith)
        ∙ between_stored with_directory n names k.metadata_at
        (omega (arith, length-sets out p lists, length-sets with_lists 72 directory))

    metadata_there : between m p laid ≡ metadata
    metadata_there =
        between_stored with_names m metadata k.lists_at
        (omega (arith, length-sets out p lists, length-sets with_lists 72 directory, length-sets with_directory n names))

    pub lists_there : between p e laid ≡ lists
    lists_there =
        between_after with_names m metadata p e (omega arith)
        ∙ between_after with_directory n names p e (omega arith)
        ∙ between_after with_lists 72 directory p e (omega arith)
        ∙ between_stored out p lists k.end_at k.room

    -- the sections one behind the other, in the order in which they lie
    in_order : laid ≡ sets out 72 body
    in_order =
        let ordered = sets (sets out 72 directory) n names in
        ap (λ (r : List ℕ). sets (sets r n names) m metadata) (sym (sets_comm out 72 directory p lists (omega arith)))
        ∙ ap (λ (r : List ℕ). sets r m metadata) (sym (sets_comm (sets out 72 directory) n names p lists (omega arith)))
        ∙ sym (sets_comm ordered m metadata p lists (omega arith))
        ∙ (stored_append (stored 72 directory out k.names_at) (stored_append (stored n names (sets out 72 directory) k.metadata_at)
        (stored_append (stored m metadata ordered k.lists_at) (stored p lists (sets ordered m metadata) k.end_at)))).left
      where
        stored : (at : ℕ) (bytes l : List ℕ) {next : ℕ} → next ≡ at + length bytes → Stored bytes at l next (sets l at bytes)
        stored at bytes l is = record { past = is; left = refl }

    behind : (header : List ℕ) → length header ≡ 72 → sets laid 0 header ≡ header ++ body ++ drop (length (header ++ body)) out
    behind header is =
        let at : 0 + length header ≡ 72 = omega arith in
        ap (λ (r : List ℕ). sets r 0 header) in_order
        ∙ sym (sets_comm out 0 header 72 body (omega arith))
        ∙ ap (λ (i : ℕ). sets (sets out 0 header) i body) (sym at)
        ∙ sym (sets_append out 0 header body)
        ∙ sets_front out (header ++ body) (omega (arith, length-append header body, four_lengths directory names metadata lists))

    -- the header over what was laid
    pub whole : (documents terms : ℕ) (o : List ℕ) → o ≡ laid
        → sets o 0 (header_bytes documents terms (between 72 n o) (between n m o) (between m p o) (between p e o))
        ≡ with_header documents terms directory names metadata lists
        ++ drop (length (with_header documents terms directory names metadata lists)) out
    whole documents terms o is =
        let d = ap (between 72 n) is ∙ directory_there in
        let s = ap (between n m) is ∙ names_there in
        let i = ap (between m p) is ∙ metadata_there in
        let ps = ap (between p e) is ∙ lists_there in
        (λ j. sets (is j) 0 (header_bytes documents terms (d j) (s j) (i j) (ps j)))
        ∙ behind (header_bytes documents terms directory names metadata lists) refl

-- ---- the steps of the write pass together

module _ (l : Lists) (out : List ℕ) (at : Offsets) (room : SegmentRoom l out at) where
  abbrev documents : List Document
  documents = (given l).documents

  abbrev terms : List Term
  terms = (given l).terms

  shape : Shape l
  shape = shaped_gives l room.checkable.shaped

  abbrev directory_of : List ℕ
  directory_of = directory_bytes 0 0 terms

  abbrev metadata_of : List ℕ
  metadata_of = metadata_bytes None documents

  abbrev lists_of : List ℕ
  lists_of = lists_bytes terms

  abbrev segment_laid : List ℕ
  segment_laid = laid out directory_of l.text metadata_of lists_of at.names at.metadata at.lists at.end

  placed : Placed out directory_of l.text metadata_of lists_of at.names at.metadata at.lists at.end
  placed = record {
    names_at = omega (arith, room.names, directory_length terms 0 0, terms_count l shape);
    metadata_at = room.metadata;
    lists_at = room.lists;
    end_at = room.end;
    room = room.room;
  }

  module _ {o₁ o₂ o₃ : List ℕ} {n₁ n₂ crc : ℕ}
      (a : TermsStored l at.lists out crc o₁) (b : Stored l.text at.names o₁ n₁ o₂)
      (c : Stored metadata_of at.metadata o₂ n₂ o₃) where
    is_laid : o₃ ≡ segment_laid
    is_laid =
        c.left ∙ ap (λ (r : List ℕ). sets r at.metadata metadata_of)
        (b.left ∙ ap (λ (r : List ℕ). sets r at.names l.text) a.left)

    -- the header may be made
    pub header_room : HeaderRoom o₃ crc at
    header_room = record {
      directory = omega (arith, room.names);
      names = omega (arith, room.metadata);
      metadata = omega (arith, room.lists);
      lists = omega (arith, room.end);
      end = omega (
        arith,
        room.room,
        stored_length c,
        stored_length b,
        ap length a.left,
        length-sets (sets out at.lists lists_of) 72 directory_of,
        length-sets out at.lists lists_of,
      );
      checksum =
          a.checksum
          ∙ ap crc32_of
          (sym (ap (between at.lists at.end) is_laid
          ∙ lists_there out directory_of l.text metadata_of lists_of at.names at.metadata at.lists at.end placed));
    }

    pub segment_stored : {o₄ : List ℕ} → HeaderStored (length l.ids) (length l.ends) at o₃ o₄ → SegmentStored l out o₄
    unfolding segment_bytes
    segment_stored d =
        let ds = sym (documents_count l shape) in
        let ts = sym (terms_count l shape) in
        let text = sym (text_is l shape) in
        record {
          left =
              d.left
              ∙ whole out directory_of l.text metadata_of lists_of at.names at.metadata at.lists at.end placed
              (length l.ids) (length l.ends) o₃ is_laid
              ∙ (λ i. with_header (ds i) (ts i) directory_of (text i) metadata_of lists_of
              ++ drop (length (with_header (ds i) (ts i) directory_of (text i) metadata_of lists_of)) out);
        }

-- ---- the call

pub segment_size : (g : Given)
    → length (segment_bytes g)
    ≡ 72 + 32 * length g.terms + length (name_bytes g.terms) + length (metadata_bytes None g.documents)
    + length (lists_bytes g.terms)
unfolding segment_bytes
segment_size g =
    let ts = g.terms in
    omega (
      arith,
      four_lengths (directory_bytes 0 0 ts) (name_bytes ts) (metadata_bytes None g.documents) (lists_bytes ts),
      directory_length ts 0 0,
    )

pub segment_length : (l : Lists) → Shape l
    → length (segment_bytes (given l))
    ≡ 72 + 32 * length l.ends + length l.text + length (metadata_bytes None (given l).documents)
    + length (lists_bytes (given l).terms)
segment_length l s = omega (arith, segment_size (given l), terms_count l s, ap length (text_is l s))

module _ (l : Lists) (out : List ℕ) where
  pub wrote_refusal : {x : Refusal} → Err x ≡ checked (check_lists l) → Wrote l out (Err x) out
  unfolding write
  wrote_refusal e = let r = refused_is (check_lists l) e in record { reply = rw r; left = rw r }

  module _ (passed : (Ok tt) ≡ checked (check_lists l)) {n : ℕ} (is : n ≡ length (segment_bytes (given l))) where
    r : check_lists l ≡ Ok tt
    r = (passed_ok (check_lists l) passed).1

    pub wrote_no_room : length out < n → Wrote l out (Err (no_room 1 n)) out
    unfolding write
    wrote_no_room h =
        let t = lt-leb (length (segment_bytes (given l))) (length out) (omega arith) in
        record { reply = rw (r, t, is); left = rw (r, t) }

    pub wrote_all : {out' : List ℕ} → n ≤ length out → SegmentStored l out out' → Wrote l out (Ok n) out'
    unfolding write
    wrote_all h s =
        let t = le-leb (length (segment_bytes (given l))) (length out) (omega arith) in
        record { reply = rw (r, t, is); left = rw (r, t) s.left }
