-- Lists, directory entries and names stored sound by sound: each at the end of its own run.
-- Assumes nothing.
use mathlib.Core.Path.{◌≡◌, refl, sym, ap, ◌∙◌}
use mathlib.Core.Bool.{true}
use mathlib.Core.List.{List, ◌∷◌, ◌++◌}
use mathlib.Core.Logic.{⊎_elim}
use Prim.Native.Nat.{ℕ, ◌+◌, ◌-◌, ◌*◌, ◌≤◌, ◌<◌}
use native.Mathlib.Omega.{arith}
use lib.ListN.{length, drop}
use lib.Seq.{sets, length-sets}
use Rattle.common.specs.Stores.{Stored}
use Rattle.common.proofs.Loops.{lt_or_ge}
use Rattle.common.proofs.Sets.{sets_append}
use Rattle.crc32.specs.Parts.{all_taken_in, complemented}
use Rattle.crc32.proofs.Carried.{part_by_part, carried_agrees}
use Rattle.segment.specs.Records.{Posting, Term, between}
use Rattle.segment.specs.Texts.{ends_fit}
use Rattle.segment.specs.Written.{entry_bytes, list_bytes, directory_bytes, name_bytes, lists_bytes}
use Rattle.calls.specs.Given.{term}
use Rattle.calls.proofs.Lengths.{directory_length}
use Rattle.write_segment.proofs.Entries.{beside}
use Rattle.write_segment.proofs.Sets.{sets_comm}
use Rattle.pad_map.specs.Bars.{Bar}
use Rattle.pad_write.specs.declared.store.Progress.{Progress}
use Rattle.pad_write.specs.Steps.{terms_from, stored_terms, TermStored, NothingStored, SoundStored, TermRoom, TermsStored, TermsRoom}
use Rattle.pad_write.proofs.Sounds.{NextSound, come_end}
use Rattle.pad_write.proofs.Tallying.{names_cons, lists_cons}

-- ---- one term more

-- one more of each of three runs: the lists' behind the names', the names' behind the directory's
three_more : (out a xs b ys c zs : List ℕ) (l e n : ℕ) → e + (length b + length ys) ≤ n → n + length c ≤ l
    → sets (sets (sets (sets (sets (sets out l a) e b) n c) (l + length a) xs) (e + length b) ys) (n + length c) zs
    ≡ sets (sets (sets out l (a ++ xs)) e (b ++ ys)) n (c ++ zs)
three_more out a xs b ys c zs l e n h k =
    let two = sets (sets out l a) e b in
    let first : Stored a l out (l + length a) (sets out l a) = record { past = refl; left = refl } in
    let second : Stored b e (sets out l a) (e + length b) two = record { past = refl; left = refl } in
    ap (λ (r : List ℕ). sets (sets r (e + length b) ys) (n + length c) zs) (sets_comm two n c (l + length a) xs (omega arith))
    ∙ ap (λ (r : List ℕ). sets r (n + length c) zs) (sym (sets_comm (sets two (l + length a) xs) (e + length b) ys n c (omega arith)))
    ∙ ap (λ (r : List ℕ). sets (sets r n c) (n + length c) zs) (beside xs ys first second (omega arith))
    ∙ sym (sets_append (sets (sets out l (a ++ xs)) e (b ++ ys)) n c zs)

module _ (names_at lists_at : ℕ) (t : Term) (ts : List Term) (out : List ℕ) (p : Progress) where
  -- what one term leaves to store of a run of terms
  store_next : {r : Progress} {out' : List ℕ} → lists_at ≤ p.list → p.entry + 32 * length (t ∷ ts) ≤ names_at
      → names_at + p.name + length t.name ≤ p.list → TermStored names_at lists_at t out p r out'
      → stored_terms names_at lists_at ts out' r ≡ stored_terms names_at lists_at (t ∷ ts) out p
  unfolding lists_bytes directory_bytes name_bytes
  store_next {r} {out'} h k m s =
      let entry = entry_bytes p.name (length t.name) (p.list - lists_at) (list_bytes t) (length t.postings) in
      let past_entry : r.entry ≡ p.entry + length entry = omega (arith, s.entry) in
      let past_name : names_at + r.name ≡ names_at + p.name + length t.name = omega (arith, s.name) in
      let from_lists : r.list - lists_at ≡ p.list - lists_at + length (list_bytes t) = omega (arith, s.list) in
      let rest = directory_bytes (p.name + length t.name) (p.list - lists_at + length (list_bytes t)) ts in
      (λ i. sets (sets (sets (s.left i) (s.list i) (lists_bytes ts)) (past_entry i) (directory_bytes (s.name i) (from_lists i) ts))
      (past_name i) (name_bytes ts))
      ∙ three_more out (list_bytes t) (lists_bytes ts) entry rest t.name (name_bytes ts) p.list p.entry (names_at + p.name)
      (omega (arith, directory_length ts (p.name + length t.name) (p.list - lists_at + length (list_bytes t)))) m

-- ---- all sounds

abbrev pub first_progress : (lists_at : ℕ) → Progress
first_progress lists_at = record { list = lists_at; entry = 72; name = 0; run = 0xFFFFFFFF; from = 0 }

-- once the terms to come are stored too, all are; `start` is the slice before the first. And once their lists are taken in too, the
-- remainder `run` is that of all
pub record StoresLeft (bars : List Bar) (text ends : List ℕ) (names_at lists_at : ℕ) (start out : List ℕ) (s : ℕ) (p : Progress) : Type 0
  where
    pub few : s ≤ length ends
    pub fit : ends_fit p.from (drop s ends) (length text) ≡ true
    pub begun : lists_at ≤ p.list
    pub lists_end : p.list + length (lists_bytes (terms_from bars text ends s p.from))
        ≡ lists_at + length (lists_bytes (terms_from bars text ends 0 0))
    pub entries_end : p.entry + 32 * length (terms_from bars text ends s p.from) ≡ 72 + 32 * length (terms_from bars text ends 0 0)
    pub names_end : p.name + length (name_bytes (terms_from bars text ends s p.from))
        ≡ length (name_bytes (terms_from bars text ends 0 0))
    pub same : stored_terms names_at lists_at (terms_from bars text ends s p.from) out p
        ≡ stored_terms names_at lists_at (terms_from bars text ends 0 0) start (first_progress lists_at)
    pub carried : all_taken_in p.run (lists_bytes (terms_from bars text ends s p.from))
        ≡ all_taken_in 0xFFFFFFFF (lists_bytes (terms_from bars text ends 0 0))

stored_length : (names_at lists_at : ℕ) (ts : List Term) (out : List ℕ) (p : Progress)
    → length (stored_terms names_at lists_at ts out p) ≡ length out
stored_length names_at lists_at ts out p = simp length-sets

module _ (bars : List Bar) (text ends : List ℕ) (names_at lists_at : ℕ) (start : List ℕ)
    (room : TermsRoom names_at lists_at (terms_from bars text ends 0 0) start) where
  abbrev all_terms : List Term
  all_terms = terms_from bars text ends 0 0

  pub stores_begin : ends_fit 0 ends (length text) ≡ true
      → StoresLeft bars text ends names_at lists_at start start 0 (first_progress lists_at)
  stores_begin fit = record {
    few = omega arith;
    fit = fit;
    begun = omega arith;
    lists_end = refl;
    entries_end = refl;
    names_end = omega arith;
    same = refl;
    carried = refl;
  }

  module _ (s : ℕ) (p : Progress) (out : List ℕ) (l : StoresLeft bars text ends names_at lists_at start out s p) where
    pub stores_length : length out ≡ length start
    stores_length =
        sym (stored_length names_at lists_at (terms_from bars text ends s p.from) out p)
        ∙ ap length l.same ∙ stored_length names_at lists_at all_terms start (first_progress lists_at)

    pub stores_done : length ends ≤ s → {r : ℕ} → r ≡ complemented p.run → TermsStored names_at lists_at all_terms start r out
    unfolding lists_bytes directory_bytes name_bytes all_taken_in
    stores_done h is =
        let e = come_end bars text ends s p.from h in
        let z : names_at + 0 ≡ names_at = omega arith in
        let w : lists_at - lists_at ≡ 0 = omega arith in
        record {
          checksum = is ∙ ap complemented (rw e at l.carried) ∙ carried_agrees _;
          left = rw (e, z, w) at l.same;
        }

    module _ {n end : ℕ} {ps : List Posting} (x : NextSound bars text ends s p.from n end ps) where
      abbrev name : List ℕ
      name = between p.from end text

      abbrev coming : List Term
      coming = terms_from bars text ends (s + 1) end

      -- what is left with the next term apart
      record Ahead : Type 0 where
        lists_end : p.list + (length (list_bytes (term name ps)) + length (lists_bytes coming)) ≡ lists_at + length (lists_bytes all_terms)
        entries_end : p.entry + 32 * length (term name ps ∷ coming) ≡ 72 + 32 * length all_terms
        names_end : p.name + (length name + length (name_bytes coming)) ≡ length (name_bytes all_terms)

      ahead : 0 < n → Ahead
      ahead k =
          let e = x.taken k in
          record {
            lists_end = rw (e, lists_cons (term name ps) coming) at l.lists_end;
            entries_end = rw e at l.entries_end;
            names_end = rw (e, names_cons (term name ps) coming) at l.names_end;
          }

      pub term_room : 0 < n → TermRoom names_at lists_at (list_bytes (term name ps)) (end - p.from) out p
      term_room k =
          let a = ahead k in
          record {
            entry = omega (arith, a.entries_end, room.directory);
            name = omega (arith, a.names_end, room.names, x.size);
            begun = l.begun;
            room = omega (arith, a.lists_end, room.lists, stores_length);
            small_name = omega (arith, a.names_end, room.small_names, x.size);
          }

      module _ {r : Progress} {out' : List ℕ} (from : r.from ≡ end) where
        unused_next : n ≡ 0 → NothingStored out p r out' → StoresLeft bars text ends names_at lists_at start out' (s + 1) r
        unused_next z q =
            let e = x.skipped z in
            record {
              few = x.few;
              fit = rw from x.rest;
              begun = rw q.list l.begun;
              lists_end = rw (q.list, from) (rw e at l.lists_end);
              entries_end = rw (q.entry, from) (rw e at l.entries_end);
              names_end = rw (q.name, from) (rw e at l.names_end);
              same = rw (q.list, q.entry, q.name, q.left, from) (rw e at l.same);
              carried = rw (q.run, from) (rw e at l.carried);
            }

        used_next : 0 < n → TermStored names_at lists_at (term name ps) out p r out'
            → StoresLeft bars text ends names_at lists_at start out' (s + 1) r
        unfolding lists_bytes
        used_next k q =
            let e = x.taken k in
            let a = ahead k in
            record {
              few = x.few;
              fit = rw from x.rest;
              begun = omega (arith, q.list, l.begun);
              lists_end = rw from (omega (arith, a.lists_end, q.list));
              entries_end = rw from (omega (arith, a.entries_end, q.entry));
              names_end = rw from (omega (arith, a.names_end, q.name));
              same =
                  rw from (store_next names_at lists_at (term name ps) coming out p l.begun
                  (omega (arith, a.entries_end, room.directory)) (omega (arith, a.names_end, room.names, l.begun)) q)
                  ∙ rw e at l.same;
              carried =
                  rw (q.run, from) (sym (part_by_part p.run (list_bytes (term name ps)) (lists_bytes coming)))
                  ∙ rw e at l.carried;
            }

      pub stores_next : {r : Progress} {out' : List ℕ} → SoundStored names_at lists_at name ps n end out p r out'
          → StoresLeft bars text ends names_at lists_at start out' (s + 1) r
      stores_next q =
          ⊎_elim
          (λ (k : 0 < n). used_next q.from k (q.used k))
          (λ (k : n ≤ 0). let z : n ≡ 0 = omega arith in unused_next q.from z (q.unused z))
          (lt_or_ge 0 n)
