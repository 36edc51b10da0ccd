-- The postings of a sound, a bar at a time: those that stand in the lists, then those of the bars left, are all.
-- Assumes nothing.
use mathlib.Core.Path.{◌≡◌, refl, sym, ap, ap₂, ◌∙◌}
use mathlib.Core.Bool.{cond}
use mathlib.Core.List.{List, [], ◌∷◌, ◌++◌, append-nil}
use mathlib.Core.Logic.{◌⊎◌, inl, inr}
use Prim.Native.Nat.{ℕ, ◌+◌, ◌≤◌, ◌<◌}
use native.Mathlib.Numerals.{add-one}
use native.Mathlib.Omega.{arith}
use lib.Dec.{ltb}
use lib.ListN.{length, take, drop, set, length-append, length-drop, length-set}
use lib.Seq.{length-take-le, take_all, take_at, take-append-le, drop-append-le, append_snoc}
use lib.Seq.{take-set-le, take-suc-set, sets-eq, length-sets}
use borrow.Author.Tests.{lt-ltb, le-ltb}
use Rattle.common.proofs.Loops.{lt_or_ge}
use Rattle.common.proofs.Pairs.{paired_count}
use Rattle.common.specs.Lists.{total}
use Rattle.common.specs.Members.{kept}
use Rattle.common.specs.Stores.{Stored}
use Rattle.segment.specs.Records.{Posting}
use Rattle.calls.specs.Given.{posting, postings_in}
use Rattle.calls.proofs.Parts.{parts_count}
use Rattle.pad_map.specs.Bars.{Bar, hits_in_all}
use Rattle.pad_map.specs.Acts.{steps_of, postings_of}
use Rattle.pad_lists.proofs.Runs.{steps_few}

-- ---- one posting more

total_more : (cs : List ℕ) (c : ℕ) → total (cs ++ (c ∷ [])) ≡ total cs + c
total_more [] c = omega arith
total_more (k ∷ cs) c = omega (arith, total_more cs c)

postings_more : (ids cs ps : List ℕ) (id : ℕ) (qs : List ℕ) → length ids ≡ length cs → total cs ≡ length ps
    → postings_in (ids ++ (id ∷ [])) (cs ++ (length qs ∷ [])) (ps ++ qs) ≡ postings_in ids cs ps ++ (posting id qs ∷ [])
postings_more [] [] [] id qs e t = rw (take_all (length qs) qs (omega arith))
postings_more [] [] (p ∷ ps) id qs e t = absurd (omega arith)
postings_more [] (c ∷ cs) ps id qs e t = absurd (omega arith)
postings_more (x ∷ ids) [] ps id qs e t = absurd (omega arith)
postings_more (x ∷ ids) (c ∷ cs) ps id qs e t =
    let l : c ≤ length ps = omega arith in
    rw (take-append-le c ps qs l, drop-append-le c ps qs l)
    (ap (λ (r : List Posting). posting x (take c ps) ∷ r)
    (postings_more ids cs (drop c ps) id qs (omega arith) (omega (arith, length-drop c ps))))

take_more : (xs : List ℕ) (n v : ℕ) → n < length xs → take (n + 1) (set xs n v) ≡ take n xs ++ (v ∷ [])
take_more xs n v h = rw (add-one n) (take-suc-set xs n v h)

module _ (s : ℕ) (b : Bar) (bs : List Bar) where
  postings_here : 0 < length (steps_of s b.hits) → postings_of s (b ∷ bs) ≡ posting b.id (steps_of s b.hits) ∷ postings_of s bs
  unfolding postings_of kept
  postings_here h = rw (lt-ltb 0 (length (steps_of s b.hits)) h)

  postings_past : length (steps_of s b.hits) ≡ 0 → postings_of s (b ∷ bs) ≡ postings_of s bs
  unfolding postings_of kept
  postings_past e = rw (le-ltb 0 (length (steps_of s b.hits)) (omega arith))

-- ---- the lists while bars are left

pub record Listed (sound : ℕ) (bars rest : List Bar) (n filled : ℕ) (ids counts positions : List ℕ) : Type 0 where
  pub ids_long : length ids ≡ 256
  pub counts_long : length counts ≡ 256
  pub positions_long : length positions ≡ 8192
  pub few : n + length rest ≤ 256
  pub room : filled + hits_in_all rest ≤ 8192
  pub enough : total (take n counts) ≡ filled
  pub postings : postings_in (take n ids) (take n counts) (take filled positions) ++ postings_of sound rest ≡ postings_of sound bars

module _ {sound : ℕ} {bars : List Bar} {ids counts positions : List ℕ} where
  pub listed_start : length ids ≡ 256 → length counts ≡ 256 → length positions ≡ 8192 → length bars ≤ 256 → hits_in_all bars ≤ 8192
      → Listed sound bars bars 0 0 ids counts positions
  listed_start a b c f h = record {
    ids_long = a;
    counts_long = b;
    positions_long = c;
    few = omega arith;
    room = omega arith;
    enough = refl;
    postings = refl;
  }

  module _ {b : Bar} {rest : List Bar} {n filled : ℕ} (l : Listed sound bars (b ∷ rest) n filled ids counts positions)
      {next : ℕ} {positions' : List ℕ} (st : Stored (steps_of sound b.hits) filled positions next positions') where
    short : filled + length (steps_of sound b.hits) ≤ length positions
    short = omega (arith, l.room, l.positions_long, steps_few sound b.hits)

    positions_more : take next positions' ≡ take filled positions ++ steps_of sound b.hits
    positions_more =
        let qs = steps_of sound b.hits in
        let e : length (take filled positions ++ qs) ≡ filled + length qs =
        length-append (take filled positions) qs ∙ ap (λ (k : ℕ). k + length qs) (length-take-le filled positions (omega (arith, short))) in
        ap₂ take st.past (st.left ∙ sets-eq qs positions filled short)
        ∙ take_at (take filled positions ++ qs) (drop (filled + length qs) positions) (filled + length qs) e

    still_long : length positions' ≡ 8192
    still_long = ap length st.left ∙ length-sets positions filled (steps_of sound b.hits) ∙ l.positions_long

    listed_more : 0 < length (steps_of sound b.hits)
        → Listed sound bars rest (n + 1) next (set ids n b.id) (set counts n (length (steps_of sound b.hits))) positions'
    listed_more h =
        let qs = steps_of sound b.hits in
        let a = take_more ids n b.id (omega (arith, l.few, l.ids_long)) in
        let k = take_more counts n (length qs) (omega (arith, l.few, l.counts_long)) in
        let ids_short : length (take n ids) ≡ n = length-take-le n ids (omega (arith, l.few, l.ids_long)) in
        let counts_short : length (take n counts) ≡ n = length-take-le n counts (omega (arith, l.few, l.counts_long)) in
        let positions_short : length (take filled positions) ≡ filled = length-take-le filled positions (omega (arith, short)) in
        record {
          ids_long = length-set ids n b.id ∙ l.ids_long;
          counts_long = length-set counts n (length qs) ∙ l.counts_long;
          positions_long = still_long;
          few = omega (arith, l.few);
          room = omega (arith, l.room, st.past, steps_few sound b.hits);
          enough = rw k (omega (arith, total_more (take n counts) (length qs), l.enough, st.past));
          postings =
              rw (
                a,
                k,
                positions_more,
                postings_more (take n ids) (take n counts) (take filled positions) b.id qs (ids_short ∙ sym counts_short)
                    (l.enough ∙ sym positions_short),
                append_snoc,
              )
              (rw (postings_here sound b rest h) at l.postings);
        }

    listed_past : length (steps_of sound b.hits) ≡ 0
        → Listed sound bars rest n next (set ids n b.id) (set counts n (length (steps_of sound b.hits))) positions'
    listed_past z =
        let qs = steps_of sound b.hits in
        let none : [] ≡ qs = take_all 0 qs (omega arith) in
        let a = take-set-le n ids n b.id (omega arith) in
        let k = take-set-le n counts n (length qs) (omega arith) in
        record {
          ids_long = length-set ids n b.id ∙ l.ids_long;
          counts_long = length-set counts n (length qs) ∙ l.counts_long;
          positions_long = still_long;
          few = omega (arith, l.few);
          room = omega (arith, l.room, st.past, steps_few sound b.hits);
          enough = rw k (omega (arith, l.enough, st.past));
          postings = rw (a, k, positions_more, ← none, append-nil) (rw (postings_past sound b rest z) at l.postings);
        }

    -- a bar's postings are one or none
    pub listed_next : {count n' : ℕ} → count ≡ length (steps_of sound b.hits) → n' ≡ cond (ltb 0 count) (n + 1) n
        → Listed sound bars rest n' next (set ids n b.id) (set counts n count) positions'
    listed_next {count} {n'} e f = go (lt_or_ge 0 count)
      where
        go : (0 < count) ⊎ (count ≤ 0) → Listed sound bars rest n' next (set ids n b.id) (set counts n count) positions'
        go (inl h) =
            let k : n' ≡ n + 1 = f ∙ rw (lt-ltb 0 count h) in
            rw (k, e) (listed_more (omega arith))
        go (inr h) =
            let k : n' ≡ n = f ∙ rw (le-ltb 0 count h) in
            rw (k, e) (listed_past (omega arith))

  -- no bar is left
  module _ {n filled : ℕ} (l : Listed sound bars [] n filled ids counts positions) where
    pub listed_all : postings_in (take n ids) (take n counts) (take filled positions) ≡ postings_of sound bars
    unfolding postings_of kept
    listed_all = sym (append-nil _) ∙ l.postings

    pub listed_count : n ≡ length (postings_of sound bars)
    listed_count =
        let a : length (take n ids) ≡ n = length-take-le n ids (omega (arith, l.few, l.ids_long)) in
        let k : length (take n counts) ≡ n = length-take-le n counts (omega (arith, l.few, l.counts_long)) in
        let p = parts_count (take n counts) (take filled positions) in
        sym (ap length (sym listed_all) ∙ paired_count posting (take n ids) _ (a ∙ sym k ∙ sym p) ∙ a)
