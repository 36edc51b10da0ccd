-- The call's answers: 20, then 12 and 11, then what the writer answers of the pad's lists.
-- Assumes nothing.
use Rattle.std.specs.Prelude.{Err, None, Ok}
use mathlib.Core.Path.{◌≡◌, sym, ap, ◌∙◌}
use mathlib.Core.Bool.{Bool, true, false, ◌&&◌}
use mathlib.Core.List.{List}
use Prim.Native.Nat.{ℕ, ◌+◌, ◌*◌, ◌≤◌, ◌<◌, ◌^◌}
use native.Mathlib.Omega.{arith}
use lib.Dec.{leb, eqb}
use lib.ListN.{length, take, get_or, length-map}
use borrow.Author.Tests.{le-leb, lt-leb, leb-true, eqb-true, eq-eqb, ne_eqb}
use Rattle.common.specs.Lists.{paired}
use Rattle.common.proofs.Loops.{and_left, and_right}
use Rattle.segment.specs.declared.refusal.Refusal.{Refusal}
use Rattle.segment.specs.Metadata.{document}
use Rattle.segment.specs.Refusals.{too_large, list_shape, broken_pad, no_room}
use Rattle.segment.specs.Results.{Answer, ◌>>=◌, check as checking}
use Rattle.segment.specs.Steps.{checked}
use Rattle.segment.specs.Texts.{ends_fit}
use Rattle.segment.specs.Written.{name_bytes, metadata_bytes, segment_bytes}
use Rattle.segment.proofs.Accepted.{check_gives}
use Rattle.segment.proofs.Inversions.{last_gives}
use Rattle.calls.specs.Checks.{check_lists, check_terms}
use Rattle.calls.specs.Given.{Lists, given, laid_flat}
use Rattle.calls.specs.Writing.{write}
use Rattle.calls.proofs.Lengths.{flat_metadata_size}
use Rattle.calls.proofs.Unflat.{given_back}
use Rattle.write_frame.specs.declared.frame.Offsets.{Offsets}
use Rattle.write_segment.specs.Promise.{Wrote}
use Rattle.write_segment.proofs.Whole.{segment_size, wrote_refusal, wrote_no_room, wrote_all}
use Rattle.pad_map.specs.Acts.{given_of, write_out}
use Rattle.pad_words.specs.Calls.{held_bars, pad_write}
use Rattle.pad_words.specs.Whole.{whole}
use Rattle.pad_words.specs.Words.{held}
use Rattle.pad_words.proofs.Wholes.{held_many}
use Rattle.pad_lists.specs.Steps.{DocumentsGathered}
use Rattle.pad_write.specs.declared.measure.Tally.{Tally}
use Rattle.pad_write.specs.Promise.{PadWritten}
use Rattle.pad_write.specs.Steps.{TalliedAll, DocumentsGiven, PadAndNames, check_text, SegmentRoom, SegmentStored}
use Rattle.pad_write.proofs.Bounds.{Few, documents_of, documents_are, bars_few, pad_terms, pad_given, terms_few, checks_are, lists_low}

-- ---- the documents handed in

module _ {pad ids lengths : List ℕ} (d : DocumentsGiven pad ids lengths) where
  pub documents_given : paired document ids lengths ≡ documents_of (held pad)
  documents_given = rw (d.ids_are, d.lengths_are) (documents_are (held pad))

  ids_count : length ids ≡ length (held pad)
  ids_count = ap length d.ids_are ∙ length-map (held pad) (λ b. b.id)

  pub documents_count : length ids ≡ length (documents_of (held pad))
  documents_count = ids_count ∙ sym (length-map (held pad) (λ b. document b.id b.len))

-- the front of the lists that were gathered
pub documents_front : {pad ids lengths : List ℕ} {n : ℕ} → DocumentsGathered pad ids lengths → n ≡ get_or pad 0 0
    → DocumentsGiven pad (take n ids) (take n lengths)
documents_front {pad} d is =
    let bars = is ∙ sym (held_many pad) in
    record { ids_are = rw bars d.ids; lengths_are = rw bars d.lengths }

-- at most 256 bars and 128 sounds
module _ {pad text ends posting_ids counts positions : List ℕ} (q : PadAndNames pad text ends posting_ids counts positions) where
  pub few_documents : {ids lengths : List ℕ} → DocumentsGiven pad ids lengths → length ids ≤ 256
  few_documents d = omega (arith, ids_count d, bars_few pad q.whole_pad)

  few_sounds : Few 128 (length text) (pad_terms pad text ends)
  few_sounds = terms_few pad q.whole_pad text ends q.short q.sounds q.fit

  pub few_terms : length (pad_terms pad text ends) ≤ 128
  few_terms = few_sounds.terms

  pub names_small : length (name_bytes (pad_terms pad text ends)) < 2 ^ 32
  names_small = omega (arith, few_sounds.name_size, q.short)

-- ---- the writer's answers of the pad's lists

module _ (pad text ends : List ℕ) {posting_ids counts positions : List ℕ} (q : PadAndNames pad text ends posting_ids counts positions)
    {ids lengths : List ℕ} (d : DocumentsGiven pad ids lengths) (out : List ℕ) where
  abbrev handed : Lists
  handed = laid_flat (pad_given pad text ends)

  checks_same : check_lists handed ≡ check_terms (paired document ids lengths) None (pad_terms pad text ends)
  checks_same = rw (documents_given d) (checks_are pad q.whole_pad text ends q.short q.sounds q.fit)

  pub sounds_refused : {x : Refusal} → check_terms (paired document ids lengths) None (pad_terms pad text ends) ≡ Err x
      → Wrote handed out (Err x) out
  sounds_refused e = wrote_refusal handed out (sym (ap checked (checks_same ∙ e)))

  module _ {t : Tally} (m : TalliedAll (paired document ids lengths) (pad_terms pad text ends) t) where
    -- no sum of sizes wraps
    pub record SizesLow : Type 0 where
      pub terms : t.terms ≤ 128
      pub name_size : t.names ≤ 16777216
      pub metadata_size : length (metadata_bytes None (paired document ids lengths)) ≤ 2560
      pub list_size : t.lists ≤ 251658240
      pub documents : length ids ≤ 256

    pub sizes_low : SizesLow
    sizes_low =
        let f = few_sounds q in
        let few = few_documents q d in
        record {
          terms = omega (arith, m.count, f.terms);
          name_size = omega (arith, m.name_size, f.name_size, q.short);
          metadata_size = omega (arith, flat_metadata_size ids lengths);
          list_size = omega (arith, m.list_size, lists_low pad q.whole_pad text ends q.short q.sounds q.fit);
          documents = few;
        }

    passes : (Ok tt) ≡ checked (check_lists handed)
    passes = sym (ap checked (checks_same ∙ m.passed))

    module _ {size names_at metadata_at lists_at end : ℕ} (is : size ≡ length (metadata_bytes None (paired document ids lengths)))
        (n : names_at ≡ 72 + t.terms * 32) (k : metadata_at ≡ names_at + t.names) (l : lists_at ≡ metadata_at + size)
        (e : end ≡ lists_at + t.lists) where
      abbrev offsets : Offsets
      offsets = record { names = names_at; metadata = metadata_at; lists = lists_at; end = end }

      size_is : size ≡ length (metadata_bytes None (pad_given pad text ends).documents)
      unfolding given_of
      size_is = is ∙ rw (documents_given d)

      pub sounds_room : end ≤ length out → SegmentRoom (pad_given pad text ends) out t.terms offsets
      unfolding given_of
      sounds_room h = record {
        count = m.count;
        names = omega (arith, n, m.count);
        metadata = omega (arith, k, m.name_size);
        lists = omega (arith, l, size_is);
        end = omega (arith, e, m.list_size);
        room = h;
      }

      length_is : end ≡ length (segment_bytes (given handed))
      unfolding given_of
      length_is =
          rw (given_back (pad_given pad text ends))
          (omega (arith, segment_size (pad_given pad text ends), n, k, l, e, size_is, m.count, m.name_size, m.list_size))

      pub sounds_no_room : length out < end → Wrote handed out (Err (no_room 1 end)) out
      sounds_no_room h = wrote_no_room handed out passes length_is h

      pub sounds_written : {out' : List ℕ} → end ≤ length out → SegmentStored (pad_given pad text ends) out out'
          → Wrote handed out (Ok end) out'
      sounds_written h s =
          wrote_all handed out passes length_is h (record { left = rw (given_back (pad_given pad text ends)) s.left })

-- ---- the text's checks

module _ (text ends : List ℕ) where
  pub text_long : 16777216 < length text → Err too_large ≡ checked (check_text text ends)
  unfolding check_text
  text_long h = rw (lt-leb (length text) 16777216 h)

  module _ (h : length text ≤ 16777216) where
    pub ends_long : 16777216 < length ends → Err too_large ≡ checked (check_text text ends)
    unfolding check_text
    ends_long k = rw (le-leb (length text) 16777216 h, lt-leb (length ends) 16777216 k)

    module _ (k : length ends ≤ 16777216) where
      pub ends_other : (length ends ≡ 128 → ⊥) → Err list_shape ≡ checked (check_text text ends)
      unfolding check_text
      ends_other n = rw (le-leb (length text) 16777216 h, le-leb (length ends) 16777216 k, ne_eqb (length ends) 128 n)

      module _ (n : length ends ≡ 128) {b : Bool} (is : b ≡ ends_fit 0 ends (length text)) where
        pub text_unshaped : b ≡ false → Err list_shape ≡ checked (check_text text ends)
        unfolding check_text
        text_unshaped e =
            rw (le-leb (length text) 16777216 h, le-leb (length ends) 16777216 k, eq-eqb (length ends) 128 n, ← is, e)

        pub text_fine : b ≡ true → (Ok tt) ≡ checked (check_text text ends)
        unfolding check_text
        text_fine e =
            rw (le-leb (length text) 16777216 h, le-leb (length ends) 16777216 k, eq-eqb (length ends) 128 n, ← is, e)

  pub record TextFine : Type 0 where
    pub short : length text ≤ 16777216
    pub sounds : length ends ≡ 128
    pub fit : ends_fit 0 ends (length text) ≡ true

  pub text_gives : check_text text ends ≡ Ok tt → TextFine
  unfolding check_text
  text_gives e =
      let r = check_gives (leb (length text) 16777216 && leb (length ends) 16777216) _ _ e in
      let s = last_gives (eqb (length ends) 128 && ends_fit 0 ends (length text)) _ r.1 in
      record {
        short = leb-true _ _ (and_left (leb (length text) 16777216) _ r.0);
        sounds = eqb-true _ _ (and_left (eqb (length ends) 128) _ s);
        fit = and_right (eqb (length ends) 128) _ s;
      }

-- ---- the call

-- the text's checks together, then the writer
two_checks : (a b : Bool) (x y : Refusal) (f : Answer (List ℕ)) {r : Answer (Unit {0})} → (checking a x >>= λ _. checking b y) ≡ r
    → (checking a x >>= λ _. checking b y >>= λ _. f) ≡ (r >>= λ _. f)
two_checks true true x y f e = ap (λ (r : Answer (Unit {0})). r >>= λ _. f) e
two_checks true false x y f e = ap (λ (r : Answer (Unit {0})). r >>= λ _. f) e
two_checks false true x y f e = ap (λ (r : Answer (Unit {0})). r >>= λ _. f) e
two_checks false false x y f e = ap (λ (r : Answer (Unit {0})). r >>= λ _. f) e

module _ (pad text ends out : List ℕ) where
  pub pad_broken : whole pad ≡ false → PadWritten pad text ends out (Err broken_pad) out
  unfolding pad_write held_bars
  pad_broken w = record { reply = rw w; left = rw w }

  module _ (w : whole pad ≡ true) where
    answer_is : {r : Answer (Unit {0})} → check_text text ends ≡ r
        → pad_write pad text ends (length out) ≡ (r >>= λ _. write (laid_flat (pad_given pad text ends)) (length out))
    unfolding pad_write held_bars write_out check_text
    answer_is e =
        rw w
        (two_checks (leb (length text) 16777216 && leb (length ends) 16777216) (eqb (length ends) 128 && ends_fit 0 ends (length text))
        too_large list_shape (write (laid_flat (pad_given pad text ends)) (length out)) e)

    pub text_refused : {x : Refusal} → check_text text ends ≡ Err x → PadWritten pad text ends out (Err x) out
    text_refused e = record { reply = rw (answer_is e); left = rw (answer_is e) }

    pub pad_answered : check_text text ends ≡ Ok tt → {r : (Answer ℕ)} {out' : List ℕ}
        → Wrote (laid_flat (pad_given pad text ends)) out r out'
        → PadWritten pad text ends out r out'
    pad_answered e s = record { reply = rw (answer_is e) s.reply; left = rw (answer_is e) s.left }
