-- A term asked for: its name checked, the segment opened, the entry found, the list decoded, in the order of the code's steps.
-- Assumes nothing.
use Rattle.std.specs.Prelude.{Err, None, Ok, Some}
use Rattle.segment.specs.Results.{Answer}
use mathlib.Core.Path.{◌≡◌, sym, ◌∙◌}
use mathlib.Core.Bool.{true, false}
use mathlib.Core.List.{List, []}
use Prim.Native.Nat.{ℕ, ◌≤◌, ◌<◌}
use lib.ListN.{length}
use borrow.Author.Tests.{le-leb, lt-leb}
use Rattle.utf8.specs.Utf8.{utf8}
use Rattle.segment.specs.declared.refusal.Refusal.{Refusal}
use Rattle.read_open.specs.declared.header.Layout.{Layout}
use Rattle.segment.specs.Refusals.{too_large, invalid_utf8}
use Rattle.segment.specs.Postings.{decode, total_positions}
use Rattle.segment.specs.Opening.{open_segment}
use Rattle.read_open.specs.Steps.{cut}
use Rattle.read_cursors.specs.Held.{held_documents}
use Rattle.segment.specs.Steps.{checked}
use Rattle.read_lists.specs.Steps.{tallied}
use Rattle.read_open.specs.Opened.{Opens}
use Rattle.segment.proofs.Accepted.{passed_ok, refused_is}
use Rattle.read_terms.specs.declared.find.TermList.{TermList}
use Rattle.calls.specs.Lookups.{well_named, postings_of}
use Rattle.read_terms.specs.Steps.{list_entry, TermIsFound, ListIsDecoded}
use Rattle.read_terms.proofs.Finding.{nameless, tally_ok, tally_refused}
use Rattle.read_terms.proofs.Longer.{decoded_walked, read_many, read_counts}
use Rattle.calls.specs.Reads.{df, term_list}
use Rattle.calls.specs.Replies.{df_answer}

-- ---- the name

module _ (name : List ℕ) where
  pub name_large : 16777216 < length name → Err too_large ≡ checked (well_named name)
  unfolding well_named
  name_large h = rw (lt-leb (length name) 16777216 h)

  module _ (h : length name ≤ 16777216) where
    pub name_not_text : utf8 name ≡ false → Err invalid_utf8 ≡ checked (well_named name)
    unfolding well_named
    name_not_text e = rw (le-leb (length name) 16777216 h, e)

    pub name_fine : utf8 name ≡ true → (Ok tt) ≡ checked (well_named name)
    unfolding well_named
    name_fine e = rw (le-leb (length name) 16777216 h, e)

module _ (bytes name : List ℕ) where
  module _ {x : Refusal} (bad : Err x ≡ checked (well_named name)) where
    pub df_unnamed : Err x ≡ df_answer (df bytes name)
    unfolding df
    df_unnamed = rw (refused_is (well_named name) bad)

    pub list_unnamed : term_list bytes name ≡ Err x
    unfolding term_list
    list_unnamed = rw (refused_is (well_named name) bad)

  module _ (fine : (Ok tt) ≡ checked (well_named name)) where
    -- ---- the segment

    module _ {x : Refusal} (shut : open_segment bytes ≡ Err x) where
      pub df_shut : Err x ≡ df_answer (df bytes name)
      unfolding df
      df_shut = rw ((passed_ok (well_named name) fine).1, shut)

      pub list_shut : term_list bytes name ≡ Err x
      unfolding term_list
      list_shut = rw ((passed_ok (well_named name) fine).1, shut)

    module _ (l : Layout) (opens : Opens bytes (Ok l)) where
      -- ---- the entry

      module _ (absent : TermIsFound bytes l name None) where
        pub df_absent : Ok 0 ≡ df_answer (df bytes name)
        unfolding df
        df_absent = rw ((passed_ok (well_named name) fine).1, opens.1, absent opens.0 opens.2)

        pub list_absent : term_list bytes name ≡ Ok []
        unfolding term_list postings_of
        list_absent = rw ((passed_ok (well_named name) fine).1, opens.1, absent opens.0 opens.2)

      module _ (t : TermList) (is : TermIsFound bytes l name (Some t)) where
        pub df_found : Ok t.df ≡ df_answer (df bytes name)
        unfolding df
        df_found = rw ((passed_ok (well_named name) fine).1, opens.1, is.2 opens.0 opens.2)

        -- ---- the list

        list_is : term_list bytes name ≡ decode (held_documents l.documents None (cut bytes l).metadata) (list_entry bytes t)
        unfolding term_list postings_of
        list_is =
            rw ((passed_ok (well_named name) fine).1, opens.1, is.2 opens.0 opens.2, opens.2.documents)
            (nameless opens.0.documents name bytes t)

        module _ {r : (Answer ℕ)}
            (told : r ≡ tallied (decode (held_documents l.documents None (cut bytes l).metadata) (list_entry bytes t))) where
          pub list_refused : {x : Refusal} → r ≡ Err x → term_list bytes name ≡ Err x
          list_refused e = list_is ∙ tally_refused total_positions _ (sym e ∙ told)

          pub list_decoded : {n : ℕ} → r ≡ Ok n → ListIsDecoded bytes name t.start t.df n
          list_decoded e =
              let (ps, ok_is, total) = tally_ok total_positions _ (sym e ∙ told) in
              let walk = decoded_walked bytes t _ ok_is in
              record {
                postings = ps;
                decoded = list_is ∙ ok_is;
                walked = walk.is;
                counts = read_counts walk;
                count = read_many walk;
                total = total;
              }
