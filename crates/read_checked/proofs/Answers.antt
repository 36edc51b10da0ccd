-- What the calls with a handle answer, from what the plain call answered or from the list that was found by the handle.
-- Assumes nothing.
use Rattle.std.specs.Prelude.{Err, None, Ok, Some}
use Rattle.segment.specs.Results.{Answer}
use Rattle.segment.specs.declared.replies.Totals.{Totals}
use mathlib.Core.Path.{◌≡◌, refl, ap}
use mathlib.Core.List.{List, map}
use Prim.Native.Nat.{ℕ, ◌+◌, ◌≤◌, ◌<◌}
use native.Mathlib.Omega.{arith}
use lib.ListN.{length, drop, length-map}
use Rattle.common.specs.Stores.{Stored}
use Rattle.segment.specs.declared.refusal.Refusal.{Refusal}
use Rattle.segment.specs.Steps.{checked}
use Rattle.segment.specs.Refusals.{no_room}
use Rattle.calls.specs.Lookups.{well_named}
use Rattle.calls.specs.Replies.{fronted}
use Rattle.calls.proofs.Kept.{past_none, past_within, docs_kept, positions_kept, postings_kept}
use Rattle.calls.proofs.Filling.{at_front}
use Rattle.read_cursors.specs.declared.documents.Documents.{Documents}
use Rattle.read_cursors.specs.declared.postings.Postings.{Postings}
use Rattle.read_cursors.specs.Held.{PostingAt, held_documents, held_positions, held_postings}
use Rattle.read_cursors.specs.Steps.{documents_from, SoughtDocument, postings_from, SoughtPosting}
use Rattle.read_cursors.proofs.Rising.{postings_few, positions_few}
use Rattle.read_open.specs.Steps.{cut}
use Rattle.read_documents.proofs.Lengths.{len_known, len_absent}
use Rattle.read_terms.specs.declared.find.TermList.{TermList}
use Rattle.read_terms.specs.Steps.{TermIsFound}
use Rattle.read_terms.specs.Promise.{DocsAnswered}
use Rattle.read_terms.proofs.Asking.{df_unnamed, df_absent, df_found}
use Rattle.read_terms.proofs.Answering.{docs_none, docs_stopped, docs_no_room, docs_filled}
use Rattle.read_positions.specs.Promise.{PostingsAnswered, PositionsAnswered}
use Rattle.read_positions.specs.Steps.{all_positions, FilledPostings}
use Rattle.read_positions.proofs.Answering.{postings_none, postings_stopped, ids_no_room, counts_no_room}
use Rattle.read_positions.proofs.Answering.{positions_no_room, postings_filled}
use Rattle.read_positions.proofs.Seeking.{no_list, positions_stopped, not_listed, places_no_room, positions_filled}
use Rattle.handle.specs.declared.handle.Handle.{Handle}
use Rattle.handle.specs.Handles.{layout_of, Usable}
use Rattle.read_checked.specs.declared.named.ListPlace.{ListPlace}
use Rattle.read_checked.specs.Promise.{LengthChecked, DfChecked, DocsChecked, PostingsChecked, PositionsChecked}
use Rattle.read_checked.specs.Steps.{ListNamed, counts_in}
use Rattle.read_checked.proofs.Own.{opened, own_vouches}
use Rattle.read_checked.proofs.Counting.{positions_within, list_counted}

-- the postings that the bytes hold from a list's place on
abbrev held : List ℕ → ListPlace → List PostingAt
held bytes p = held_postings p.df None (drop p.start bytes)

-- ---- the length of a document

module _ (bytes : List ℕ) (h : Handle) (id : ℕ) (u : Usable bytes h) (first here : Documents)
    (starts : documents_from (cut bytes (layout_of h)).metadata first
    ≡ held_documents h.documents None (cut bytes (layout_of h)).metadata)
    (sought : SoughtDocument (cut bytes (layout_of h)).metadata id first here) where
  pub length_known : 0 < here.remaining → here.id.0 ≡ id → LengthChecked bytes h id (Ok (Some here.len))
  length_known some same =
      record { plain = λ of. len_known bytes (layout_of h) (opened (own_vouches u of)) id first here starts sought some same }

  pub length_absent : (0 < here.remaining → here.id.0 ≡ id → ⊥) → LengthChecked bytes h id (Ok None)
  length_absent other =
      record { plain = λ of. len_absent bytes (layout_of h) (opened (own_vouches u of)) id first here starts sought other }

-- ---- how many documents have a term

module _ (bytes : List ℕ) (h : Handle) (name : List ℕ) where
  pub df_badly : {x : Refusal} → Err x ≡ checked (well_named name) → DfChecked bytes h name (Err x)
  df_badly bad = record { plain = λ _. df_unnamed bytes name bad }

  module _ (u : Usable bytes h) (fine : Ok tt ≡ checked (well_named name)) where
    pub df_nowhere : TermIsFound bytes (layout_of h) name None → DfChecked bytes h name (Ok 0)
    df_nowhere at = record { plain = λ of. df_absent bytes name fine (layout_of h) (opened (own_vouches u of)) at }

    pub df_stored : (t : TermList) → TermIsFound bytes (layout_of h) name (Some t) → DfChecked bytes h name (Ok t.df)
    df_stored t at = record { plain = λ of. df_found bytes name fine (layout_of h) (opened (own_vouches u of)) t at }

-- ---- the documents of a term

module _ (bytes : List ℕ) (h : Handle) (name ids : List ℕ) where
  pub docs_plain : {r : Answer ℕ} {ids' : List ℕ} → DocsAnswered bytes name ids r ids' → DocsChecked bytes h name ids r ids'
  docs_plain p = record { kept = docs_kept ids bytes name p.reply p.ids_left; plain = λ _. p }

  module _ (u : Usable bytes h) where
    pub docs_unnamed : {x : Refusal} → ListNamed bytes h name (Err x) → DocsChecked bytes h name ids (Err x) ids
    docs_unnamed l = record { kept = refl; plain = λ of. docs_stopped bytes name ids (l (own_vouches u of)) }

    pub docs_nowhere : ListNamed bytes h name (Ok None) → DocsChecked bytes h name ids (Ok 0) ids
    docs_nowhere l = record { kept = past_none ids; plain = λ of. docs_none bytes name ids (l (own_vouches u of)) }

    module _ (p : ListPlace) (l : ListNamed bytes h name (Ok (Some p))) {n : ℕ} (is : n ≡ p.df) where
      pub docs_short : length ids < n → DocsChecked bytes h name ids (Err (no_room 1 n)) ids
      docs_short short =
          record { kept = refl; plain = λ of. docs_no_room bytes name ids (l (own_vouches u of)).1 is short }

      module _ (room : n ≤ length ids) where
        pub docs_fit : length (held bytes p) ≤ length ids
        docs_fit = omega (arith, postings_few p.df None (drop p.start bytes))

        pub docs_listed : {ids' : List ℕ} → ids' ≡ fronted (map (λ s. s.doc) (held bytes p)) ids
            → DocsChecked bytes h name ids (Ok n) ids'
        docs_listed e = record {
          kept =
              rw e
              (past_within (map (λ s. s.doc) (held bytes p)) ids n
              (omega (arith, length-map (held bytes p) (λ s. s.doc), postings_few p.df None (drop p.start bytes))) room);
          plain = λ of. docs_filled bytes name ids (l (own_vouches u of)).1 is room e;
        }

-- ---- the postings of a term

module _ (bytes : List ℕ) (h : Handle) (name ids counts places : List ℕ) where
  pub postings_plain : {r : Answer Totals} {ids' counts' places' : List ℕ}
      → PostingsAnswered bytes name ids counts places r ids' counts' places'
      → PostingsChecked bytes h name ids counts places r ids' counts' places'
  postings_plain p = record {
    kept = postings_kept ids counts places bytes name p.reply p.ids_left p.counts_left p.positions_left;
    plain = λ _. p;
  }

  module _ (u : Usable bytes h) where
    pub postings_unnamed : {x : Refusal} → ListNamed bytes h name (Err x)
        → PostingsChecked bytes h name ids counts places (Err x) ids counts places
    postings_unnamed l =
        record { kept = (refl, refl, refl); plain = λ of. postings_stopped bytes name ids counts places (l (own_vouches u of)) }

    pub postings_nowhere : ListNamed bytes h name (Ok None)
        → PostingsChecked bytes h name ids counts places (Ok (record { postings = 0; positions = 0 })) ids counts places
    postings_nowhere l = record {
      kept = (past_none ids, past_none counts, past_none places);
      plain = λ of. postings_none bytes name ids counts places (l (own_vouches u of));
    }

    module _ (p : ListPlace) (l : ListNamed bytes h name (Ok (Some p))) {n : ℕ} (is : n ≡ p.df) where
      pub ids_short : length ids < n
          → PostingsChecked bytes h name ids counts places (Err (no_room 1 n)) ids counts places
      ids_short short = record {
        kept = (refl, refl, refl);
        plain = λ of. ids_no_room bytes name ids counts places (l (own_vouches u of)).1 is short;
      }

      module _ (room₁ : n ≤ length ids) where
        pub counts_short : length counts < n
            → PostingsChecked bytes h name ids counts places (Err (no_room 2 n)) ids counts places
        counts_short short = record {
          kept = (refl, refl, refl);
          plain = λ of. counts_no_room bytes name ids counts places (l (own_vouches u of)).1 is room₁ short;
        }

        -- as many positions as the counts say
        module _ (room₂ : n ≤ length counts) {total : ℕ} (all : total ≡ counts_in (held bytes p)) where
          pub places_short : length places < total
              → PostingsChecked bytes h name ids counts places (Err (no_room 3 total)) ids counts places
          places_short short = record {
            kept = (refl, refl, refl);
            plain =
                λ of.
                positions_no_room bytes name ids counts places (list_counted (l (own_vouches u of)).1 all) is room₁ room₂ short;
          }

          module _ (room₃ : total ≤ length places) where
            few : length (held bytes p) ≤ n
            few = omega (arith, postings_few p.df None (drop p.start bytes))

            pub postings_fit : (length (held bytes p) ≤ length ids) × (length (held bytes p) ≤ length counts)
                × (length (all_positions (held bytes p)) ≤ length places)
            postings_fit = (omega (arith, few), omega (arith, few), omega (arith, positions_within (held bytes p)))

            pub postings_listed : {ids' counts' places' : List ℕ} → FilledPostings (held bytes p) ids counts places ids' counts' places'
                → PostingsChecked bytes h name ids counts places
                (Ok (record { postings = n; positions = total })) ids' counts' places'
            postings_listed f = record {
              kept =
                  rw (f.ids_left, f.counts_left, f.positions_left) (
                    past_within (map (λ s. s.doc) (held bytes p)) ids n
                        (omega (arith, few, length-map (held bytes p) (λ s. s.doc))) room₁,
                    past_within (map (λ s. s.count) (held bytes p)) counts n
                        (omega (arith, few, length-map (held bytes p) (λ s. s.count))) room₂,
                    past_within (all_positions (held bytes p)) places total (omega (arith, positions_within (held bytes p))) room₃,
                  );
              plain =
                  λ of.
                  postings_filled bytes name ids counts places (list_counted (l (own_vouches u of)).1 all) is room₁ room₂ room₃ f;
            }

-- ---- the positions of a term in a document

module _ (bytes : List ℕ) (h : Handle) (name : List ℕ) (id : ℕ) (places : List ℕ) where
  pub positions_plain : {r : Answer ℕ} {places' : List ℕ} → PositionsAnswered bytes name id places r places'
      → PositionsChecked bytes h name id places r places'
  positions_plain p = record { kept = positions_kept places bytes name id p.reply p.positions_left; plain = λ _. p }

  module _ (u : Usable bytes h) where
    pub positions_unnamed : {x : Refusal} → ListNamed bytes h name (Err x)
        → PositionsChecked bytes h name id places (Err x) places
    positions_unnamed l = record { kept = refl; plain = λ of. positions_stopped bytes name id places (l (own_vouches u of)) }

    pub positions_nowhere : ListNamed bytes h name (Ok None) → PositionsChecked bytes h name id places (Ok 0) places
    positions_nowhere l = record { kept = past_none places; plain = λ of. no_list bytes name id places (l (own_vouches u of)) }

    -- the cursor that was sought in the list
    module _ (p : ListPlace) (l : ListNamed bytes h name (Ok (Some p))) (first here : Postings)
        (starts : postings_from bytes first ≡ held bytes p) (sought : SoughtPosting bytes id first here) where
      pub positions_elsewhere : (0 < here.remaining → here.doc.0 ≡ id → ⊥)
          → PositionsChecked bytes h name id places (Ok 0) places
      positions_elsewhere other = record {
        kept = past_none places;
        plain = λ of. not_listed bytes name id places (l (own_vouches u of)).1 first here starts sought other;
      }

      module _ (some : 0 < here.remaining) (same : here.doc.0 ≡ id) {n : ℕ} (is : n ≡ here.count) where
        pub positions_short : length places < n → PositionsChecked bytes h name id places (Err (no_room 1 n)) places
        positions_short short = record {
          kept = refl;
          plain =
              λ of.
              places_no_room bytes name id places (l (own_vouches u of)).1 first here starts sought some same is short;
        }

        module _ {part : List ℕ} (room : n ≤ length places) (q : part ≡ held_positions here.count None (drop here.at bytes)) where
          within : length part ≤ n
          within = omega (arith, ap length q, positions_few here.count None (drop here.at bytes))

          pub positions_fit : 0 + length part ≤ length places
          positions_fit = omega (arith, within)

          pub positions_listed : {next : ℕ} {places' : List ℕ} → Stored part 0 places next places'
              → PositionsChecked bytes h name id places (Ok n) places'
          positions_listed s = record {
            kept = rw (at_front (omega (arith, within)) s) (past_within part places n within room);
            plain =
                λ of.
                positions_filled bytes name id places (l (own_vouches u of)).1 first here starts sought some same is room q s;
          }
