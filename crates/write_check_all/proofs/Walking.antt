-- The walk that the check, the size and the write pass share: at each term what is still to come lies in the lists, and the terms
-- that it passes are those of the lists.
-- Assumes nothing.
use mathlib.Core.Path.{◌≡◌, refl, sym, ap, ◌∙◌}
use mathlib.Core.Bool.{true, ◌&&◌}
use mathlib.Core.List.{List, [], ◌∷◌}
use Prim.Native.Nat.{ℕ, ◌+◌, ◌-◌, ◌≤◌, ◌<◌}
use native.Mathlib.Omega.{arith}
use lib.Dec.{leb}
use lib.ListN.{length, take, drop, get_or, length-take, length-drop}
use lib.Seq.{drop-drop, take_all}
use borrow.Author.Tests.{leb-true}
use Rattle.common.proofs.Loops.{and_left, and_right, drop_step, drop_end}
use Rattle.segment.specs.Records.{Posting, between}
use Rattle.segment.specs.Texts.{ends_fit, names}
use Rattle.write_check_all.specs.declared.walk.Walk.{Walk}
use Rattle.calls.specs.Given.{Lists, given, posting, term, postings_in}
use Rattle.common.specs.Lists.{parts, total}
use Rattle.calls.specs.Acceptance.{Shape}
use Rattle.write_check_all.specs.Steps.{terms_from, next_of, start_walk, ShapedFrom, Checkable}
use Rattle.segment.proofs.Shapes.{shape_is}
use Rattle.common.proofs.Pairs.{paired_count, paired_take, paired_drop}
use Rattle.calls.proofs.Parts.{parts_count, parts_take, parts_drop, total_split, total_step, ends_last}
use Rattle.calls.proofs.Passing.{small_gives, shaped_gives}

-- ---- the postings of flat lists, up to an index and from it on

module _ (n : ℕ) (ids counts positions : List ℕ) where
  pub postings_take : take n (postings_in ids counts positions) ≡ postings_in (take n ids) (take n counts) positions
  postings_take = rw (paired_take posting n ids (parts counts positions), parts_take n counts positions)

  pub postings_drop : drop n (postings_in ids counts positions)
      ≡ postings_in (drop n ids) (drop n counts) (drop (total (take n counts)) positions)
  postings_drop = rw (paired_drop posting n ids (parts counts positions), parts_drop n counts positions)

-- a part of n elements
part_of : (from n : ℕ) (l : List ℕ) → between from (from + n) l ≡ take n (drop from l)
part_of from n l = let e : from + n - from ≡ n = omega arith in ap (λ (k : ℕ). take k (drop from l)) e

-- how many a part has, and a part up to the end
pub part_length : (from to : ℕ) (l : List ℕ) → to ≤ length l → length (between from to l) ≡ to - from
part_length from to l h = simp (length-take, length-drop) (omega arith)

pub to_end : (from : ℕ) (l : List ℕ) → between from (length l) l ≡ drop from l
to_end from l = take_all (length l - from) (drop from l) (rw length-drop (omega arith))

-- one posting after the other; `at` is where its positions start
module _ (ids counts positions : List ℕ) (i at : ℕ) where
  pub postings_step : i < length ids → i < length counts
      → postings_in (drop i ids) (drop i counts) (drop at positions)
      ≡ posting (get_or ids i 0) (between at (at + get_or counts i 0) positions)
      ∷ postings_in (drop (i + 1) ids) (drop (i + 1) counts) (drop (at + get_or counts i 0) positions)
  postings_step h k =
      rw (drop_step ids i 0 h, drop_step counts i 0 k, drop-drop (get_or counts i 0) at positions, part_of at (get_or counts i 0) positions)

  pub postings_end : length ids ≤ i → postings_in (drop i ids) (drop i counts) (drop at positions) ≡ []
  postings_end h = rw (drop_end ids i h)

-- ---- the next term of a walk

-- where its name ends, how many postings it has, and where they end
abbrev pub end_of : Walk → Lists → ℕ
end_of w l = get_or l.ends w.term 0

abbrev pub count_of : Walk → Lists → ℕ
count_of w l = get_or l.posting_counts w.term 0

abbrev pub last_of : Walk → Lists → ℕ
last_of w l = w.posting + count_of w l

abbrev pub name_at : Walk → Lists → List ℕ
name_at w l = between w.name (end_of w l) l.text

abbrev pub postings_at : Walk → Lists → List Posting
postings_at w l =
    postings_in (between w.posting (last_of w l) l.posting_ids) (between w.posting (last_of w l) l.position_counts)
    (drop w.position l.positions)

-- the same by the slices that the code takes, up to `last`
abbrev pub postings_to : (last : ℕ) → Walk → Lists → List Posting
postings_to last w l =
    postings_in (between w.posting last l.posting_ids) (between w.posting last l.position_counts)
    (between w.position (length l.positions) l.positions)

abbrev pub next_in : Walk → Lists → Walk
next_in w l = next_of w l.ends l.posting_counts l.position_counts

-- what is still to come lies in the lists: the ends come to the text's length, and the counts to that of the next list
pub record WalkFits (w : Walk) (l : Lists) : Type 0 where
  pub term : w.term ≤ length l.ends
  pub names : ends_fit w.name (drop w.term l.ends) (length l.text) ≡ true
  pub postings : w.posting + total (drop w.term l.posting_counts) ≡ length l.posting_ids
  pub positions : w.position + total (drop w.posting l.position_counts) ≡ length l.positions

-- the parts that belong to the term lie in the lists
pub record WalkInside (w : Walk) (l : Lists) : Type 0 where
  pub counts : w.term < length l.posting_counts
  pub name : w.name ≤ end_of w l
  pub end : end_of w l ≤ length l.text
  pub ids : last_of w l ≤ length l.posting_ids
  pub position_counts : last_of w l ≤ length l.position_counts
  pub positions : w.position + total (between w.posting (last_of w l) l.position_counts) ≤ length l.positions

pub terms_start : (l : Lists) → terms_from start_walk l ≡ (given l).terms
unfolding terms_from given
terms_start l = refl

module _ (l : Lists) (k : Checkable l) where
  s : Shape l
  s = shaped_gives l k.shaped

  pub walk_starts : WalkFits start_walk l
  walk_starts = record {
    term = omega arith;
    names = (shape_is l.text l.ends).1 s.text;
    postings = omega (arith, s.postings);
    positions = omega (arith, s.positions);
  }

  module _ (w : Walk) (f : WalkFits w l) where
    pub terms_end : length l.ends ≤ w.term → terms_from w l ≡ []
    unfolding terms_from names
    terms_end h = rw (drop_end l.ends w.term h)

    module _ (h : w.term < length l.ends) where
      counted : w.term < length l.posting_counts
      counted = omega (arith, s.terms)

      ends_come : leb w.name (end_of w l) && ends_fit (end_of w l) (drop (w.term + 1) l.ends) (length l.text) ≡ true
      unfolding ends_fit
      ends_come = rw (drop_step l.ends w.term 0 h) at f.names

      later_ends : ends_fit (end_of w l) (drop (w.term + 1) l.ends) (length l.text) ≡ true
      later_ends = and_right (leb w.name (end_of w l)) _ ends_come

      up : w.name ≤ end_of w l
      up = leb-true _ _ (and_left (leb w.name (end_of w l)) (ends_fit (end_of w l) _ _) ends_come)

      postings_come : last_of w l + total (drop (w.term + 1) l.posting_counts) ≡ length l.posting_ids
      postings_come = omega (arith, f.postings, total_step l.posting_counts w.term counted)

      positions_come : (next_in w l).position + total (drop (last_of w l) l.position_counts) ≡ length l.positions
      positions_come =
          let c = count_of w l in
          rw (← drop-drop c w.posting l.position_counts)
          (omega (arith, f.positions, total_split c (drop w.posting l.position_counts)))

      pub walk_inside : WalkInside w l
      walk_inside = record {
        counts = counted;
        name = up;
        end = ends_last _ _ _ later_ends;
        ids = omega (arith, postings_come);
        position_counts = omega (arith, postings_come, s.counts);
        positions = rw (part_of w.posting (count_of w l) l.position_counts) (omega (arith, positions_come));
      }

      pub name_length : length (name_at w l) ≡ end_of w l - w.name
      name_length = part_length w.name (end_of w l) l.text walk_inside.end

      -- the slices that the code takes for the term's postings fit together
      module _ {last : ℕ} (is : last ≡ last_of w l) where
        pub postings_given : postings_to last w l ≡ postings_at w l
        postings_given = rw (is, to_end w.position l.positions)

        pub ids_match : length (between w.posting last l.posting_ids) ≡ length (between w.posting last l.position_counts)
        ids_match =
            rw (is, part_length w.posting (last_of w l) l.posting_ids walk_inside.ids)
            (sym (part_length w.posting (last_of w l) l.position_counts walk_inside.position_counts))

        pub positions_enough : total (between w.posting last l.position_counts)
            ≤ length (between w.position (length l.positions) l.positions)
        positions_enough =
            rw (is, part_length w.position (length l.positions) l.positions (omega arith)) (omega (arith, walk_inside.positions))

      pub postings_count : length (postings_at w l) ≡ count_of w l
      postings_count =
          let ids = between w.posting (last_of w l) l.posting_ids in
          let counts = between w.posting (last_of w l) l.position_counts in
          let cut = parts counts (drop w.position l.positions) in
          omega (
            arith,
            paired_count posting ids cut (ids_match refl ∙ sym (parts_count counts (drop w.position l.positions))),
            part_length w.posting (last_of w l) l.posting_ids walk_inside.ids,
          )

      -- what the step asks
      pub walk_asks : ShapedFrom w l.ends l.posting_counts l.position_counts
      walk_asks =
          let small = small_gives l k.small in
          record {
            ends_there = h;
            counts_there = counted;
            inside = walk_inside.position_counts;
            few = small.position_counts;
            low = omega (arith, f.positions, small.positions);
          }

      pub walk_next : {n : Walk} → n ≡ next_in w l → WalkFits n l
      walk_next e =
          rw e
          (record { term = omega arith; names = later_ends; postings = postings_come; positions = positions_come })

      pub terms_step : terms_from w l ≡ term (name_at w l) (postings_at w l) ∷ terms_from (next_in w l) l
      unfolding terms_from names
      terms_step =
          let c = count_of w l in
          let past : w.name + (end_of w l - w.name) ≡ end_of w l = omega (arith, up) in
          rw (
            drop_step l.ends w.term 0 h,
            drop_step l.posting_counts w.term 0 counted,
            drop-drop (end_of w l - w.name) w.name l.text,
            postings_take c (drop w.posting l.posting_ids) (drop w.posting l.position_counts)
                (drop w.position l.positions),
            postings_drop c (drop w.posting l.posting_ids) (drop w.posting l.position_counts)
                (drop w.position l.positions),
            drop-drop c w.posting l.posting_ids,
            drop-drop c w.posting l.position_counts,
            drop-drop (total (take c (drop w.posting l.position_counts))) w.position l.positions,
            part_of w.posting c l.posting_ids,
            part_of w.posting c l.position_counts,
            past,
          )
