-- What is found by the layout of a handle that vouches for the bytes is what the plain calls find by opening them.
-- Assumes nothing.
use Rattle.std.specs.Prelude.{Err, None, Ok, Some}
use Rattle.segment.specs.Results.{Answer}
use mathlib.Core.Path.{◌≡◌, refl}
use mathlib.Core.List.{List}
use Prim.Native.Nat.{ℕ}
use Rattle.segment.specs.declared.refusal.Refusal.{Refusal}
use Rattle.segment.specs.Steps.{checked}
use Rattle.segment.specs.Records.{Document}
use Rattle.segment.specs.Postings.{decode, total_positions}
use Rattle.calls.specs.Lookups.{well_named}
use Rattle.calls.proofs.Whole.{name_gives}
use Rattle.read_cursors.specs.Held.{held_documents}
use Rattle.read_lists.specs.Steps.{tallied}
use Rattle.read_open.specs.Steps.{cut}
use Rattle.read_open.specs.Opened.{Opens}
use Rattle.read_terms.specs.declared.find.TermList.{TermList}
use Rattle.read_terms.specs.Steps.{list_entry, TermIsFound}
use Rattle.read_terms.proofs.Finding.{nameless}
use Rattle.read_terms.proofs.Asking.{list_unnamed, list_absent, list_refused, list_decoded}
use Rattle.handle.specs.declared.handle.Handle.{Handle}
use Rattle.handle.specs.Handles.{layout_of, Usable, HandleOf, Vouches}
use Rattle.handle.proofs.Handles.{vouches}
use Rattle.read_checked.specs.Steps.{ListNamed}

-- as opening would have said it
pub opened : {bytes : List ℕ} {h : Handle} → Vouches bytes h → Opens bytes (Ok (layout_of h))
opened v = (v.segment, v.opens, v.is_open)

-- the bytes' own handle vouches for them where it is used
pub own_vouches : {bytes : List ℕ} {h : Handle} → Usable bytes h → HandleOf bytes h → Vouches bytes h
own_vouches {bytes} u of = vouches bytes of u.lowest

-- ---- the list of a name

module _ (bytes : List ℕ) (h : Handle) (name : List ℕ) where
  pub named_badly : {x : Refusal} → Err x ≡ checked (well_named name) → ListNamed bytes h name (Err x)
  named_badly bad v = list_unnamed bytes name bad

  -- the documents that the metadata holds
  abbrev documents : List Document
  documents = held_documents h.documents None (cut bytes (layout_of h)).metadata

  module _ (fine : Ok tt ≡ checked (well_named name)) where
    pub named_nowhere : TermIsFound bytes (layout_of h) name None → ListNamed bytes h name (Ok None)
    named_nowhere at v = list_absent bytes name fine (layout_of h) (opened v) at

    module _ (t : TermList) (is : TermIsFound bytes (layout_of h) name (Some t)) where
      -- every list decodes
      pub named_sure : h.level ≡ 2 → ListNamed bytes h name (Ok (Some (record { start = t.start; df = t.df })))
      named_sure top v =
          let (ps, d) = name_gives v.segment name (v.lists top) (is.2 v.segment v.is_open) in
          let told : Ok (total_positions ps) ≡ tallied (decode documents (list_entry bytes t)) =
          rw (v.is_open.documents, ← nameless v.segment.documents name bytes t, d) in
          (total_positions ps, list_decoded bytes name fine (layout_of h) (opened v) t is told refl)

      -- the list was decoded
      module _ {r : Answer ℕ} (told : r ≡ tallied (decode documents (list_entry bytes t))) where
        pub named_decoded : {n : ℕ} → r ≡ Ok n → ListNamed bytes h name (Ok (Some (record { start = t.start; df = t.df })))
        named_decoded {n} e v = (n, list_decoded bytes name fine (layout_of h) (opened v) t is told e)

        pub named_refused : {x : Refusal} → r ≡ Err x → ListNamed bytes h name (Err x)
        named_refused e v = list_refused bytes name fine (layout_of h) (opened v) t is told e
