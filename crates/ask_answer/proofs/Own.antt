-- The answer for names of a question in an open segment: their lists decoded and walked.
-- Assumes nothing.
use Rattle.std.specs.Prelude.{Err, None, Ok, Some}
use Rattle.segment.specs.Results.{Answer}
use mathlib.Core.Path.{◌≡◌, refl, sym, ap, ◌∙◌}
use mathlib.Core.Bool.{Bool, true, false}
use mathlib.Core.List.{List, [], ◌∷◌}
use Prim.Native.Nat.{ℕ, suc, ◌≤◌, ◌<◌}
use native.Mathlib.Omega.{arith}
use lib.ListN.{length, take, drop, get_or}
use Rattle.std.proofs.lemmas.List.{get_or-take, length-take-le}
use borrow.Author.Tests.{le-leb}
use Rattle.common.specs.Members.{kept}
use Rattle.common.specs.Elements.{◌∈◌, Rising}
use Rattle.common.proofs.Membership.{at_place}
use Rattle.segment.specs.declared.refusal.Refusal.{Refusal}
use Rattle.segment.specs.Records.{Document, Posting, Term}
use Rattle.segment.specs.Postings.{decode}
use Rattle.segment.specs.Steps.{checked}
use Rattle.segment.proofs.Accepted.{passed_ok, refused_is}
use Rattle.segment.proofs.Binds.{ok_same}
use Rattle.rules.specs.declared.rule.Rule.{Rule}
use Rattle.rules.specs.Different.{different}
use Rattle.rules.proofs.Idle.{not_idle_is, some_named}
use Rattle.calls.specs.Lookups.{postings_of, positions_of}
use Rattle.calls.specs.Questions.{under, decoded_positions, decode_names, answer, answers}
use Rattle.calls.specs.Whole.{every_list}
use Rattle.calls.proofs.Decoding.{verdict, verdict_refused, verdict_ok, asked_under}
use Rattle.calls.proofs.Posted.{docs, ids}
use Rattle.calls.proofs.Answering.{met, answer_of_name, answers_found, answers_refused}
use Rattle.calls.proofs.Whole.{name_gives}
use Rattle.read_cursors.proofs.Rising.{postings_rise}
use Rattle.read_open.specs.declared.header.Layout.{Layout}
use Rattle.read_open.specs.Opened.{OpenedAs}
use Rattle.read_terms.specs.declared.find.TermList.{TermList}
use Rattle.read_terms.specs.Steps.{TermIsFound, list_entry}
use Rattle.read_terms.specs.Together.{ListDecodes, ListsDecode}
use Rattle.read_terms.proofs.Finding.{nameless}
use Rattle.read_terms.proofs.Longer.{decoded_walked}
use Rattle.ask_names.specs.declared.slots.Names.{Names}
use Rattle.ask_names.specs.Steps.{no_list}
use Rattle.ask_names.specs.Lists.{decode_each, documents_in, lists_decoded}
use Rattle.ask_names.proofs.SlotsNamed.{Holding, list_at}
use Rattle.ask_names.proofs.SlotsUsed.{slot_list, numbers, lists_decode}
use Rattle.ask_names.proofs.Resolving.{told, names_held}
use Rattle.ask_walk.proofs.Leaps.{rising_docs}
use Rattle.ask_answer.specs.Promise.{answer_in, Replies}
use Rattle.ask_answer.specs.Steps.{held_in, held_list, Fitting, found_in, ListsAnswered, ListsPassed, Askable}
use Rattle.ask_answer.proofs.Known.{open_rise, decoded_known}

-- lists that decode one by one decode in turn
in_turn : (documents : List Document) (bytes : List ℕ) (lists : List TermList)
    → ((k : ℕ) → k < length lists → ListDecodes documents (list_entry bytes (get_or lists k no_list)))
    → decode_each documents bytes lists ≡ Ok tt
unfolding decode_each
in_turn documents bytes [] h = refl
in_turn documents bytes (l ∷ ls) h = rw (h 0 (omega arith)).decoded (in_turn documents bytes ls (λ k g. h (suc k) (omega arith)))

module _ (bytes : List ℕ) (at : Layout) (sure : Bool) (lists : List TermList) where
  -- lists that were decoded together
  pub together_so : ListsDecode (documents_in bytes at) bytes lists → ListsPassed bytes at sure lists (Ok tt)
  together_so all _ = rw (in_turn (documents_in bytes at) bytes lists all.each)

  -- lists that were decoded one by one
  pub checked_so : (r : Answer (Unit {0})) → r ≡ lists_decoded bytes at lists → ListsPassed bytes at sure lists r
  checked_so (Ok _) e = λ _. e
  checked_so (Err x) e = e

module _ {bytes : List ℕ} {at : Layout} {a : Rule} {s : Names} (q : Askable bytes at a s) where
  abbrev documents : List Document
  documents = q.segment.documents

  is_opened : OpenedAs bytes at
  is_opened = (q.segment, q.is_open)

  held : Holding (TermIsFound bytes at) q.names s
  held = names_held is_opened q.resolved q.few

  named : 0 < s.taken
  named = omega (arith, held.taken, some_named a (length q.names) ((not_idle_is a (length q.names)).0 q.not_idle))

  -- ---- the lists decoded

  has : (nm : List ℕ) (l : TermList) → TermIsFound bytes at nm (Some l)
      → postings_of q.segment nm ≡ decode documents (list_entry bytes l)
  unfolding postings_of
  has nm l r = rw (r.2 q.segment q.is_open) (nameless documents nm bytes l)

  lacks : (nm : List ℕ) → TermIsFound bytes at nm None → postings_of q.segment nm ≡ Ok []
  unfolding postings_of
  lacks nm r = rw (r q.segment q.is_open)

  pub decoded : lists_decoded bytes at (take s.different s.list) ≡ checked (verdict (decode_names q.segment (different q.names)))
  decoded = rw q.is_open.documents (ap checked (lists_decode q.segment documents bytes has lacks s held))

  pub names_refused : {x : Refusal} → Err x ≡ lists_decoded bytes at (take s.different s.list)
      → (ids : List ℕ) → Replies (answer_in q.segment a q.names (length ids)) ids (Err x) ids
  names_refused e ids =
      let f = (verdict_refused (decode_names q.segment (different q.names))).1 (refused_is _ (e ∙ decoded)) in
      rw (answers_refused q.segment a q.names q.not_idle f) (refl, refl)

  -- where every list of the segment decodes, these do
  each_decodes : every_list q.segment ≡ Ok tt → (k : ℕ) → k < length (take s.different s.list)
      → ListDecodes documents (list_entry bytes (get_or (take s.different s.list) k no_list))
  each_decodes all k h =
      let few : s.different ≤ length s.list = omega (arith, held.sound.few, held.taken, q.few, held.sound.list_long) in
      let g : k < s.different = omega (arith, length-take-le s.different s.list few) in
      let (nm, m, r) = held.owned k g in
      let (ps, d) = name_gives q.segment nm all (r.2 q.segment q.is_open) in
      rw (get_or-take s.different s.list k no_list g)
      (record { postings = ps; decoded = sym (nameless documents nm bytes (list_at s k)) ∙ d })

  own_passed : every_list q.segment ≡ Ok tt → (Ok tt) ≡ lists_decoded bytes at (take s.different s.list)
  own_passed all = rw (q.is_open.documents, in_turn documents bytes (take s.different s.list) (each_decodes all))

  pub known_passed : (sure : Bool) → (sure ≡ false → (Ok tt) ≡ lists_decoded bytes at (take s.different s.list))
      → (sure ≡ true → every_list q.segment ≡ Ok tt) → (Ok tt) ≡ lists_decoded bytes at (take s.different s.list)
  known_passed true seen known = own_passed (known refl)
  known_passed false seen known = seen refl

  module _ (passed : (Ok tt) ≡ lists_decoded bytes at (take s.different s.list)) where
    pub all : (ts : List Term) × (decode_names q.segment (different q.names) ≡ Ok ts)
    all = verdict_ok (decode_names q.segment (different q.names)) (passed_ok _ (passed ∙ decoded)).1

    abbrev pub found_all : List ℕ
    found_all = answer a q.names documents all.0

    found_is : answers q.segment a q.names ≡ Ok found_all
    found_is = answers_found q.segment a q.names q.not_idle all.1

    under_name : (nm : List ℕ) → nm ∈ q.names → postings_of q.segment nm ≡ Ok (under all.0 nm)
    under_name nm m = asked_under q.segment q.names all.0 all.1 nm m

    -- the documents of one of the names are enough
    found_by : (nm : List ℕ) → nm ∈ q.names → (ps : List Posting) → under all.0 nm ≡ ps → Rising (docs ps)
        → ((d : ℕ) → d ∈ docs ps → d ∈ ids documents) → found_all ≡ kept (met a q.names all.0) (docs ps)
    found_by nm m ps e rises known =
        rw e at (answer_of_name a q.names documents all.0 nm m (open_rise q.is_open) (rw e rises) (rw e known))

    -- a name without a term is in no document
    pub found_none : s.absent ≡ true → found_all ≡ []
    unfolding kept
    found_none e =
        let (nm, m, r) = held.absent.0 e in
        found_by nm m [] (ok_same (sym (under_name nm m) ∙ lacks nm r)) tt (λ d k. absurd k)

    pub names_absent : s.absent ≡ true → (buffer : List ℕ)
        → Replies (answer_in q.segment a q.names (length buffer)) buffer (Ok 0) buffer
    names_absent e buffer = rw (found_is, found_none e, le-leb 0 (length buffer) (omega arith)) (refl, refl)

    -- ---- the lists walked

    module _ (present : s.absent ≡ false) where
      -- the list of a name
      module _ (k : ℕ) (nm : List ℕ) (m : nm ∈ q.names) (r : TermIsFound bytes at nm (Some (list_at s k))) where
        list_decoded : decode documents (list_entry bytes (list_at s k)) ≡ Ok (under all.0 nm)
        list_decoded = sym (has nm (list_at s k) r) ∙ under_name nm m

        list_under : held_list bytes s.list k ≡ under all.0 nm
        list_under = (decoded_walked bytes (list_at s k) documents list_decoded).is

      pub fitting : Fitting bytes s (λ d nm. decoded_positions all.0 d nm) q.names
      fitting = record {
        numbered = numbers (told is_opened) q.names s held present;
        named = named;
        positions = λ d i g.
            let m = at_place [] q.names i (omega (arith, held.taken)) in
            ap (λ ps. positions_of ps d)
            (sym (list_under (get_or s.slot i 0) (get_or q.names i []) m (slot_list (told is_opened) q.names s held present i g)));
      }

      pub found_from : (b : ℕ) → b < s.different → found_all ≡ found_in bytes s b a (λ d nm. decoded_positions all.0 d nm) q.names
      found_from b g =
          let (nm, m, r) = held.owned b g in
          let l = list_at s b in
          let e = sym (list_under b nm m r) in
          found_by nm m (held_list bytes s.list b) e
          (rising_docs 0 (held_in bytes s.list b) (postings_rise l.df None (drop l.start bytes)))
          (rw e at (decoded_known documents (list_entry bytes l) (list_decoded b nm m r)))

      pub names_found : {b : ℕ} → b < s.different → {buffer : List ℕ} {r : (Answer ℕ)} {after : List ℕ}
          → ListsAnswered b bytes a s buffer r after → Replies (answer_in q.segment a q.names (length buffer)) buffer r after
      names_found {b} h w = rw (found_is, found_from b h) (w.replies (λ d nm. decoded_positions all.0 d nm) q.names fitting)
