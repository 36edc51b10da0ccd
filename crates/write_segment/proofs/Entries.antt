-- Posting lists and directory entries stored term by term: each at the end of its own run.
-- Assumes nothing.
use Rattle.std.specs.Prelude.{None}
use mathlib.Core.Path.{◌≡◌, refl, sym, ap, ap₂, ◌∙◌}
use mathlib.Core.List.{List, ◌++◌}
use Prim.Native.Nat.{ℕ, ◌+◌, ◌-◌, ◌*◌, ◌≤◌, ◌<◌}
use native.Mathlib.Omega.{arith}
use lib.ListN.{length, length-append}
use lib.Seq.{sets, length-sets}
use Rattle.crc32.specs.Parts.{all_taken_in, complemented}
use Rattle.crc32.proofs.Carried.{part_by_part, carried_agrees}
use Rattle.common.proofs.Sets.{sets_append}
use Rattle.segment.specs.Records.{between}
use Rattle.write_check_all.specs.declared.walk.Walk.{Walk}
use Rattle.calls.specs.Given.{Lists, given}
use Rattle.segment.specs.Written.{postings_bytes, entry_bytes, directory_bytes, lists_bytes}
use Rattle.write_check_all.specs.Steps.{terms_from, start_walk}
use Rattle.common.specs.Stores.{Stored}
use Rattle.write_frame.specs.declared.frame.Past.{Past}
use Rattle.write_frame.specs.Steps.{entry_of_list, EntryRoom, EntryStored}
use Rattle.write_segment.specs.Steps.{TermsRoom, TermsStored}
use Rattle.calls.proofs.Passing.{small_gives}
use Rattle.write_check_all.proofs.Walking.{end_of, count_of, name_at, postings_at, next_in, WalkFits, terms_start, walk_starts}
use Rattle.write_check_all.proofs.Walking.{walk_inside, name_length, postings_count, walk_next, terms_step, terms_end}
use Rattle.write_segment.proofs.Sets.{sets_comm, between_stored}
use Rattle.write_check_all.proofs.Left.{lists_next}

-- one more of a run, then one more of a run that lies before it
pub beside : {a b out out₁ out₂ : List ℕ} {list end place next : ℕ} (xs ys : List ℕ)
    → Stored a list out end out₁ → Stored b place out₁ next out₂ → place + length b ≤ end
    → sets (sets out₂ end xs) next ys ≡ sets (sets out list (a ++ xs)) place (b ++ ys)
beside {a} {b} {out} {list = list} {place = place} xs ys s t h =
    rw (t.left, t.past, s.left, s.past)
    (ap (λ (r : List ℕ). sets r (place + length b) ys) (sets_comm (sets out list a) place b (list + length a) xs (omega arith))
    ∙ sym (sets_append (sets (sets out list a) (list + length a) xs) place b ys)
    ∙ ap (λ (r : List ℕ). sets r place (b ++ ys)) (sym (sets_append out list a xs)))

-- once the lists and the entries of the terms to come are stored too, all are; `start` is the slice before the first. And once the lists to
-- come are taken in too, `run` is the remainder of all
pub record TermsLeft (l : Lists) (at : ℕ) (start out : List ℕ) (w : Walk) (list place run : ℕ) : Type 0 where
  pub fits : WalkFits w l
  pub begun : at ≤ list
  pub past : list + length (lists_bytes (terms_from w l)) ≡ at + length (lists_bytes (given l).terms)
  pub entries : place + 32 * (length l.ends - w.term) ≡ 72 + 32 * length l.ends
  pub same : sets (sets out list (lists_bytes (terms_from w l))) place (directory_bytes w.name (list - at) (terms_from w l))
      ≡ sets (sets start at (lists_bytes (given l).terms)) 72 (directory_bytes 0 0 (given l).terms)
  pub carried : all_taken_in run (lists_bytes (terms_from w l)) ≡ all_taken_in 0xFFFFFFFF (lists_bytes (given l).terms)

module _ (l : Lists) (at : ℕ) (start : List ℕ) (room : TermsRoom l start at) where
  pub terms_begin : TermsLeft l at start start start_walk at 72 0xFFFFFFFF
  terms_begin =
      let none_yet : at - at ≡ 0 = omega arith in
      record {
        fits = walk_starts l room.checkable;
        begun = omega arith;
        past = rw (terms_start l);
        entries = omega arith;
        same = rw (terms_start l, none_yet);
        carried = rw (terms_start l);
      }

  module _ (w : Walk) (out : List ℕ) (list place run : ℕ) (t : TermsLeft l at start out w list place run) where
    pub terms_length : length out ≡ length start
    terms_length =
        omega (
          arith,
          ap length t.same,
          length-sets (sets out list (lists_bytes (terms_from w l))) place (directory_bytes w.name (list - at) (terms_from w l)),
          length-sets out list (lists_bytes (terms_from w l)),
          length-sets (sets start at (lists_bytes (given l).terms)) 72 (directory_bytes 0 0 (given l).terms),
          length-sets start at (lists_bytes (given l).terms),
        )

    pub terms_done : length l.ends ≤ w.term → {r : ℕ} → r ≡ complemented run → TermsStored l at start r out
    unfolding directory_bytes lists_bytes all_taken_in
    terms_done h is = record {
      checksum = is ∙ ap complemented (rw (terms_end l room.checkable w t.fits h) at t.carried) ∙ carried_agrees _;
      left = rw (terms_end l room.checkable w t.fits h) at t.same;
    }

    module _ (h : w.term < length l.ends) where
      abbrev bytes : List ℕ
      bytes = postings_bytes None (postings_at w l)

      abbrev later : List ℕ
      later = lists_bytes (terms_from (next_in w l) l)

      comes : list + length bytes + length later ≡ at + length (lists_bytes (given l).terms)
      comes = omega (arith, t.past, ap length (lists_next l room.checkable w t.fits h), length-append bytes later)

      pub list_room : list + length bytes ≤ length out
      list_room = omega (arith, comes, room.room, terms_length)

      entry_fits : place + 32 ≤ at
      entry_fits = omega (arith, t.entries, room.directory)

      module _ {end e : ℕ} {out₁ : List ℕ} (s : Stored bytes list out end out₁) (is : e ≡ end_of w l) where
        pub entry_room : EntryRoom out₁ place w.name (e - w.name) at list end
        entry_room =
            let i = walk_inside l room.checkable w t.fits h in
            let small = small_gives l room.checkable.small in
            record {
              room = entry_fits;
              starts = t.begun;
              ends = omega (arith, s.past);
              inside = omega (arith, s.past, ap length s.left, length-sets out list bytes, list_room);
              small_name = omega arith;
            }

        abbrev entry : List ℕ
        entry = entry_of_list out₁ w.name (e - w.name) at list end (count_of w l)

        abbrev directory : List ℕ
        directory = directory_bytes (end_of w l) (end - at) (terms_from (next_in w l) l)

        -- the list in the slice is the term's
        there : between list end out₁ ≡ bytes
        there = rw s.left (between_stored out list bytes s.past (omega (arith, s.past, list_room)))

        directory_next : directory_bytes w.name (list - at) (terms_from w l) ≡ entry ++ directory
        unfolding directory_bytes
        directory_next =
            let k = room.checkable in
            let size = name_length l k w t.fits h in
            let same_size : length (name_at w l) ≡ e - w.name = size ∙ ap (λ (x : ℕ). x - w.name) (sym is) in
            let past_name : w.name + length (name_at w l) ≡ end_of w l = omega (arith, size, (walk_inside l k w t.fits h).name) in
            let past_list : list - at + length bytes ≡ end - at = omega (arith, s.past, t.begun) in
            ap (directory_bytes w.name (list - at)) (terms_step l k w t.fits h)
            ∙ (λ i. entry_bytes w.name (same_size i) (list - at) (sym there i) (postings_count l k w t.fits h i)
            ++ directory_bytes (past_name i) (past_list i) (terms_from (next_in w l) l))

        pub terms_next : {past : Past} {out₂ : List ℕ}
            → EntryStored out₁ place w.name (e - w.name) at list end (count_of w l) run past out₂
            → TermsLeft l at start out₂ (next_in w l) end past.entry past.run
        terms_next p = record {
          fits = walk_next l room.checkable w t.fits h refl;
          begun = omega (arith, t.begun, s.past);
          past = omega (arith, comes, s.past);
          entries = omega (arith, t.entries, p.stored.past);
          same =
              beside later directory s p.stored (omega (arith, entry_fits, t.begun, s.past))
              ∙ ap₂ (λ (x y : List ℕ). sets (sets out list x) place y) (sym (lists_next l room.checkable w t.fits h))
              (sym directory_next)
              ∙ t.same;
          carried =
              ap (λ (x : ℕ). all_taken_in x later) (p.carried ∙ ap (all_taken_in run) there)
              ∙ sym (part_by_part run bytes later)
              ∙ ap (all_taken_in run) (sym (lists_next l room.checkable w t.fits h))
              ∙ t.carried;
        }
