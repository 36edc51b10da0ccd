-- An entry's line, from what the decoding of its list and a cursor in it answered.
-- Assumes nothing.
use Rattle.std.specs.Prelude.{Err, None, Ok}
use mathlib.Core.Path.{◌≡◌, refl, sym, ap, ◌∙◌}
use mathlib.Core.List.{List, [], ◌∷◌}
use Prim.Native.Nat.{ℕ, ◌+◌, ◌≤◌, ◌<◌}
use native.Mathlib.Omega.{arith}
use lib.ListN.{length, drop}
use Rattle.common.specs.Stores.{Stored}
use Rattle.segment.specs.declared.refusal.Refusal.{Refusal}
use Rattle.segment.specs.Results.{Answer}
use Rattle.segment.specs.Records.{Document, Posting}
use Rattle.segment.specs.Postings.{decode}
use Rattle.segment.proofs.Binds.{ok_same, bind_gives}
use Rattle.read_cursors.specs.declared.postings.Postings.{Postings}
use Rattle.read_cursors.specs.Held.{held_positions, held_postings}
use Rattle.read_cursors.specs.Steps.{postings_from, SoughtPosting}
use Rattle.read_cursors.proofs.PostingReads.{PostingsRead}
use Rattle.read_lists.specs.Steps.{positions_in, tallied_in}
use Rattle.read_open.specs.declared.header.Layout.{Layout}
use Rattle.read_open.specs.Steps.{cut, name_at}
use Rattle.read_terms.specs.declared.find.TermList.{TermList}
use Rattle.read_terms.specs.Steps.{EntryList, list_entry}
use Rattle.read_terms.proofs.Finding.{nameless, tally_refused}
use Rattle.read_terms.proofs.InDocument.{told_in, own_few}
use Rattle.read_terms.proofs.Longer.{decoded_walked, read_counts}
use Rattle.read_positions.proofs.Sought.{sought_none, sought_these, sought_many}
use Rattle.calls.specs.Listing.{name_column}
use Rattle.calls.specs.Lookups.{positions_of}
use Rattle.calls.specs.Replies.{count_of}
use Rattle.calls.specs.Sheet.{sound_line, line_of}
use Rattle.show_steps.proofs.Lines.{sound_length, sound_most}
use Rattle.show_sheet.specs.declared.bar.Bar.{Bar}
use Rattle.show_sheet.specs.Steps.{documents_in, Drawable, entry_in, line_in, text_in, Decoded}
use Rattle.show_sheet.proofs.Hits.{sought_some}

-- ---- with hits, and without

line_none : (len : ℕ) (name hits : List ℕ) → length hits ≡ 0 → line_of len name hits ≡ []
line_none len name [] h = refl
line_none len name (x ∷ xs) h = absurd (omega arith)

line_some : (len : ℕ) (name hits : List ℕ) → 0 < length hits → line_of len name hits ≡ sound_line len name hits
line_some len name [] h = absurd (omega arith)
line_some len name (x ∷ xs) h = refl

pub line_most : (len : ℕ) (name hits : List ℕ) → length hits < 10000 → length (line_of len name hits) ≤ 117
line_most len name [] h = omega arith
line_most len name (x ∷ xs) h = sound_most len name (x ∷ xs) h

module _ (bytes : List ℕ) (l : Layout) (bar : Bar) (i : ℕ) (paper : Drawable bytes l bar) where
  abbrev documents : List Document
  documents = documents_in bytes l

  abbrev name : List ℕ
  name = name_at (cut bytes l).directory (cut bytes l).names i

  abbrev line : Answer (List ℕ)
  line = line_in documents bar (entry_in bytes l i)

  -- of a list that was decoded
  line_is : {ps : List Posting} → decode documents (entry_in bytes l i) ≡ Ok ps
      → line ≡ Ok (line_of bar.len name (positions_of ps bar.id.0))
  unfolding line_in
  line_is d = rw d

  few : {ps : List Posting} → decode documents (entry_in bytes l i) ≡ Ok ps → length (positions_of ps bar.id.0) ≤ 64
  few d = omega (arith, own_few documents bar.id.0 bar.len paper.known (entry_in bytes l i) d, paper.short)

  line_decodes : Decoded line → (ps : List Posting) × (decode documents (entry_in bytes l i) ≡ Ok ps)
  unfolding line_in
  line_decodes (text, e) = let (ps, d, f) = bind_gives (decode documents (entry_in bytes l i)) _ e in (ps, d)

  pub measured_most : {k : ℕ} → Ok k ≡ count_of line → k ≤ 117
  measured_most e = by line refl e
    where
      by : (r : Answer (List ℕ)) → line ≡ r → {k : ℕ} → Ok k ≡ count_of r → k ≤ 117
      by (Ok text) is {k} e =
          let (ps, d) = line_decodes (text, is) in
          let many : k ≡ length text = cc in
          let same : line_of bar.len name (positions_of ps bar.id.0) ≡ text = ok_same (sym (line_is d) ∙ is) in
          omega (arith, ap length same, line_most bar.len name (positions_of ps bar.id.0) (omega (arith, few d)))
      by (Err x) is e = let z : ◌≡◌ {A = ℕ} 0 1 = cc in absurd (omega arith)

  -- where its list lies
  module _ (below : i < l.terms) {t : TermList} (listed : EntryList bytes l i t) where
    decode_is : decode documents (entry_in bytes l i) ≡ decode documents (list_entry bytes t)
    decode_is =
        let (s, is) = paper.opened in
        ap (decode documents) (sym (is.entry i below) ∙ listed.is s is) ∙ nameless documents name bytes t

    -- ---- measured

    pub line_refused : {x : Refusal} → Err x ≡ tallied_in bar.id.0 (decode documents (list_entry bytes t))
        → Err x ≡ count_of line
    unfolding line_in
    line_refused e = rw (decode_is, tally_refused (positions_in bar.id.0) (decode documents (list_entry bytes t)) e)

    module _ {n : ℕ} (told : Ok n ≡ tallied_in bar.id.0 (decode documents (list_entry bytes t))) where
      pub line_silent : n ≡ 0 → Ok 0 ≡ count_of line
      line_silent z =
          let (ps, d, many) = told_in bar.id.0 documents (list_entry bytes t) told in
          rw (line_is (decode_is ∙ d), line_none bar.len name (positions_of ps bar.id.0) (many ∙ z))

      pub line_measured : (n ≡ 0 → ⊥) → {part : List ℕ} → part ≡ name → {k : ℕ} → k ≡ length (name_column 12 part)
          → Ok (k + 69) ≡ count_of line
      line_measured some same {k} wide =
          let (ps, d, many) = told_in bar.id.0 documents (list_entry bytes t) told in
          let hits = positions_of ps bar.id.0 in
          let size : length (sound_line bar.len name hits) ≡ k + 69 =
          omega (
            arith,
            sound_length bar.len name hits (omega (arith, few (decode_is ∙ d))),
            wide,
            ap (λ q. length (name_column 12 q)) same,
          ) in
          rw (line_is (decode_is ∙ d), line_some bar.len name hits (omega (arith, many, some))) (ap Ok (sym size))

    -- ---- drawn

    module _ (decoded : Decoded line) (first here : Postings)
        (starts : postings_from bytes first ≡ held_postings t.df None (drop t.start bytes))
        (sought : SoughtPosting bytes bar.id.0 first here) where
      abbrev found : List Posting
      found = (line_decodes decoded).0

      abbrev hits : List ℕ
      hits = held_positions here.count None (drop here.at bytes)

      read : PostingsRead t.df None (drop t.start bytes) found
      read = decoded_walked bytes t documents (sym decode_is ∙ (line_decodes decoded).1)

      text_is : text_in line ≡ line_of bar.len name (positions_of found bar.id.0)
      text_is = ap text_in (line_is (line_decodes decoded).1)

      pub not_drawn : (0 < here.remaining → here.doc.0 ≡ bar.id.0 → ⊥) → {out : List ℕ} {next : ℕ}
          → Stored (text_in line) next out next out
      not_drawn h {out} {next} =
          let none_there = sought_none bytes bar.id.0 read.is (read_counts read) first here starts sought h in
          let empty = text_is ∙ ap (line_of bar.len name) none_there in
          rw empty (record { past = omega arith; left = refl })

      module _ (h : 0 < here.remaining) (same : here.doc.0 ≡ bar.id.0) where
        these : positions_of found bar.id.0 ≡ hits
        these = sought_these bytes bar.id.0 read.is (read_counts read) first here starts sought h same

        pub hits_many : length hits ≡ here.count
        hits_many = sym (sought_many bytes bar.id.0 read.is (read_counts read) first here starts sought h)

        pub hits_small : here.count < 100
        hits_small = omega (arith, few (line_decodes decoded).1, ap length these, hits_many)

        pub line_drawn : {part : List ℕ} → part ≡ name → text_in line ≡ sound_line bar.len part hits
        line_drawn p =
            let some = sought_some bytes bar.id.0 read.full first here starts sought h in
            text_is ∙ ap (line_of bar.len name) these ∙ line_some bar.len name hits (omega (arith, hits_many, some))
            ∙ ap (λ q. sound_line bar.len q hits) (sym p)

        pub line_room : {part : List ℕ} → part ≡ name → length (text_in line) ≡ length (name_column 12 part) + 69
        line_room p = ap length (line_drawn p) ∙ sound_length bar.len _ hits (omega (arith, hits_many, hits_small))
