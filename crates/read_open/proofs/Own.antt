-- The layout that the header's numbers make is the segment's own, where the bytes open.
-- Assumes nothing.
use Rattle.segment.specs.declared.refusal.Section.{Section}
use Rattle.std.specs.Prelude.{Err, Ok}
use Rattle.segment.specs.Results.{Answer}
use mathlib.Core.Path.{◌≡◌, refl, sym, ap, ◌∙◌}
use mathlib.Core.List.{List}
use Prim.Native.Nat.{ℕ, ◌+◌}
use lib.Dec.{leb, eqb}
use lib.ListN.{length, take}
use borrow.Author.Tests.{leb-true, eqb-true}
use Rattle.segment.specs.Refusals.{term_directory, term_bytes, document_metadata, postings}
use Rattle.segment.specs.Records.{Segment, field, header_size}
use Rattle.segment.specs.Names.{same}
use Rattle.segment.specs.Directory.{part}
use Rattle.segment.specs.Opening.{Sections, magic, ranges, sections, open_segment}
use Rattle.segment.proofs.Binds.{refuse_ok, ok_same, bind_gives}
use Rattle.segment.proofs.Accepted.{check_gives}
use Rattle.read_open.specs.Layouts.{layout_in}
use Rattle.read_open.specs.Opened.{IsOpen}
use Rattle.read_open.specs.Steps.{range_end, cut, Reads}
use Rattle.read_open.proofs.Sections.{part_to, part_is, end_is, all_cut, on_to_ranges}
use Rattle.read_open.proofs.Openings.{open_parts, is_open}

module _ (bytes : List ℕ) where
  -- a part that was read has its end
  ended : (section : Section) (at n : ℕ) {p : List ℕ} → part section at n bytes ≡ Ok p → range_end section at n (length bytes) ≡ Ok (at + n)
  ended section at n {p} q = by_end (range_end section at n (length bytes)) refl (sym (part_is section at n bytes) ∙ q)
    where
      by_end : (r : Answer ℕ) → range_end section at n (length bytes) ≡ r → part_to at bytes r ≡ Ok p
          → range_end section at n (length bytes) ≡ Ok (at + n)
      by_end (Ok e) f g = f ∙ ap Ok (end_is section at n (length bytes) f).0
      by_end (Err x) f g = refuse_ok g

  own_ranges : {parts : Sections} → ranges bytes ≡ Ok parts → Reads bytes (ranges bytes) (Ok (layout_in bytes))
  unfolding ranges
  own_ranges e =
      let a = header_size + field 8 24 bytes in
      let b = a + field 8 32 bytes in
      let c = b + field 8 40 bytes in
      let (_, da, f) = bind_gives (part term_directory header_size (field 8 24 bytes) bytes) _ e in
      let (_, db, g) = bind_gives (part term_bytes a (field 8 32 bytes) bytes) _ f in
      let (_, dc, h) = bind_gives (part document_metadata b (field 8 40 bytes) bytes) _ g in
      let (_, dd, k) = bind_gives (part postings c (field 8 48 bytes) bytes) _ h in
      let (same, _) = check_gives (eqb (c + field 8 48 bytes) (length bytes)) _ _ k in
      all_cut bytes (ended term_directory header_size (field 8 24 bytes) da) (ended term_bytes a (field 8 32 bytes) db)
      (ended document_metadata b (field 8 40 bytes) dc) (ended postings c (field 8 48 bytes) dd)
      (eqb-true (c + field 8 48 bytes) (length bytes) same) refl refl

  own_sections : {parts : Sections} → sections bytes ≡ Ok parts → Reads bytes (sections bytes) (Ok (layout_in bytes))
  unfolding sections
  own_sections e =
      let (long, f) = check_gives (leb header_size (length bytes)) _ _ e in
      let (marked, g) = check_gives (same (take 8 bytes) magic) _ _ f in
      let (version, h) = check_gives (eqb (field 4 8 bytes) 2) _ _ g in
      let (flags, k) = check_gives (eqb (field 4 12 bytes) 0) _ _ h in
      on_to_ranges bytes (leb-true header_size (length bytes) long) marked refl (eqb-true (field 4 8 bytes) 2 version) refl
      (eqb-true (field 4 12 bytes) 0 flags) (own_ranges k)

  pub own_layout : {s : Segment} → open_segment bytes ≡ Ok s → IsOpen bytes (layout_in bytes) s
  own_layout e =
      let (parts, read, _, c) = open_parts bytes e in
      let r = own_sections read in
      let q : parts ≡ cut bytes (layout_in bytes) = ok_same (sym read ∙ sym r.reads) in
      is_open bytes (layout_in bytes) r.ordered refl (rw q at c)
