-- A note has a posting exactly when it has a hit; so the five lists, made from the counts alone, are those of the hits.
-- Assumes nothing.
use mathlib.Core.Path.{◌≡◌, refl, sym, ap, ◌∙◌}
use mathlib.Core.Bool.{Bool, true, false}
use mathlib.Core.List.{List, [], ◌∷◌, map, map-map, map-id}
use mathlib.Core.Logic.{◌⊎◌, inl, inr}
use Prim.Native.Nat.{ℕ, ◌≤◌, ◌<◌}
use native.Mathlib.Omega.{arith}
use lib.Dec.{ltb}
use lib.ListN.{length, get_or, replicate, length-map, length-replicate}
use borrow.Author.Tests.{eqb-true, eq-eqb, lt-ltb, le-ltb}
use Rattle.common.specs.Lists.{joined}
use Rattle.common.specs.Members.{some_of}
use Rattle.common.proofs.Loops.{lt_or_ge, true_false}
use Rattle.common.proofs.Membership.{some_gives, some_from, kept_gives, some_in, in_some}
use Rattle.common.proofs.Kept.{kept_same, map_same}
use Rattle.segment.specs.Records.{Document, Term}
use Rattle.segment.specs.Metadata.{document}
use Rattle.calls.specs.Given.{ends_from, laid_flat}
use Rattle.midi_read.specs.declared.track.Hit.{Hit}
use Rattle.midi_read.specs.Files.{Grid, bar_of, position_of}
use Rattle.midi_bars.specs.Bars.{rising_from, name_of, of_sound, in_bar, bar_count, sounds_of, bars_of}
use Rattle.midi_bars.specs.Bars.{posting_of, term_of, given_of, lists_of}
use Rattle.midi_bars.specs.Claims.{HitsFine}
use Rattle.midi_bars.proofs.Ranges.{range_gives, range_length}
use Rattle.calls.proofs.Shaped.{ends_count}
use Rattle.midi_bars.proofs.Struck.{bar_gives, bar_some, bar_from, sounds_gives}
use Rattle.midi_count.specs.Claims.{counted, CountsRight}
use Rattle.midi_count.proofs.Sounding.{counting_right}
use Rattle.midi_lists.specs.Heads.{heard, counts_of}
use Rattle.midi_lists.specs.Claims.{sounding, HeadsAreRight}
use Rattle.midi_lists.proofs.Heard.{heard_few, names_length}

map_one : {A : Type 0} (x : ℕ) (xs : List A) → map (λ (a : A). x) xs ≡ replicate (length xs) x
map_one x [] = refl
map_one x (a ∷ xs) = ap (λ (l : List ℕ). x ∷ l) (map_one x xs)

-- ---- a hit and a bar

module _ (g : Grid) (hs : List Hit) (a_step : 1 ≤ g.steps) (n : ℕ) where
  hit_bar : some_of (of_sound n) hs ≡ true → 0 < length (bars_of g hs n)
  hit_bar t =
      let (h, there, e) = some_gives (of_sound n) hs t in
      in_some (bars_of g hs n) (bar_of g h) (bar_from g hs a_step n (bar_of g h) (position_of g h) (record {
        hit = h;
        there = there;
        sound = eqb-true h.note n e;
        in_bar = refl;
        on = refl;
      }))

  bar_hit : 0 < length (bars_of g hs n) → some_of (of_sound n) hs ≡ true
  unfolding bars_of
  bar_hit l =
      let (b, m) = some_in (bars_of g hs n) l in
      let (h, there, t) = some_gives (in_bar g n b) hs (kept_gives _ (rising_from 0 (bar_count g hs)) b m).1 in
      some_from (of_sound n) hs h there (eq-eqb h.note n (bar_gives g n b h t).0)

  hit_or_none : some_of (of_sound n) hs ≡ ltb 0 (length (bars_of g hs n))
  hit_or_none = step (some_of (of_sound n) hs) refl (lt_or_ge 0 (length (bars_of g hs n)))
    where
      step : (b : Bool) → some_of (of_sound n) hs ≡ b → (0 < length (bars_of g hs n)) ⊎ (length (bars_of g hs n) ≤ 0)
          → b ≡ ltb 0 (length (bars_of g hs n))
      step true e k = sym (lt-ltb 0 (length (bars_of g hs n)) (hit_bar e))
      step false e (inl k) = true_false (sym (bar_hit k) ∙ e)
      step false e (inr k) = sym (le-ltb 0 (length (bars_of g hs n)) k)

-- ---- the lists

module _ (g : Grid) (hs : List Hit) (a_step : 1 ≤ g.steps) (right : CountsRight g hs) where
  sounds_are : sounds_of g hs ≡ sounding g hs
  unfolding sounds_of heard
  sounds_are =
      kept_same (λ n. some_of (of_sound n) hs) (λ n. ltb 0 (get_or (counted g hs).postings n 0)) (rising_from 0 128) (λ n m.
      hit_or_none g hs a_step n ∙ ap (ltb 0) (sym (right.postings n (omega (arith, range_gives 0 128 n m)))))

  ids_are : (lists_of g hs).ids ≡ rising_from 0 (bar_count g hs)
  unfolding lists_of laid_flat given_of
  ids_are =
      let bars = rising_from 0 (bar_count g hs) in
      map-map (λ (d : Document). d.id) (λ b. document b g.steps) bars ∙ map-id bars

  lengths_are : (lists_of g hs).lengths ≡ replicate (bar_count g hs) g.steps
  unfolding lists_of laid_flat given_of
  lengths_are =
      let bars = rising_from 0 (bar_count g hs) in
      map-map (λ (d : Document). d.len) (λ b. document b g.steps) bars ∙ map_one g.steps bars
      ∙ ap (λ (k : ℕ). replicate k g.steps) (range_length 0 (bar_count g hs))

  names_are : map (λ (t : Term). t.name) (map (term_of g hs) (sounds_of g hs)) ≡ map name_of (sounding g hs)
  names_are = map-map (λ (t : Term). t.name) (term_of g hs) (sounds_of g hs) ∙ ap (map name_of) sounds_are

  text_is : (lists_of g hs).text ≡ joined (map name_of (sounding g hs))
  unfolding lists_of laid_flat given_of
  text_is = ap (λ (ns : List (List ℕ)). joined ns) names_are

  ends_are : (lists_of g hs).ends ≡ ends_from 0 (map name_of (sounding g hs))
  unfolding lists_of laid_flat given_of
  ends_are = ap (ends_from 0) names_are

  counts_are : (lists_of g hs).posting_counts ≡ counts_of (counted g hs).postings
  unfolding lists_of laid_flat given_of
  counts_are =
      map-map (λ (t : Term). length t.postings) (term_of g hs) (sounds_of g hs)
      ∙ map_same (λ n. length (map (posting_of g hs n) (bars_of g hs n))) (λ n. get_or (counted g hs).postings n 0) (sounds_of g hs) (λ n m.
      length-map (bars_of g hs n) (posting_of g hs n) ∙ sym (right.postings n (sounds_gives g hs n m)))
      ∙ ap (map (λ n. get_or (counted g hs).postings n 0)) sounds_are

bars_few : (g : Grid) (hs : List Hit) → HitsFine g hs → bar_count g hs ≤ 65536
bars_few g hs fine = step (lt_or_ge 65536 (bar_count g hs))
  where
    step : (65536 < bar_count g hs) ⊎ (bar_count g hs ≤ 65536) → bar_count g hs ≤ 65536
    step (inl l) = let (h, m, k) = bar_some g hs 65536 l in absurd (omega (arith, fine.near h m))
    step (inr l) = l

pub heads_are_right : HeadsAreRight
heads_are_right g hs some_ticks fine in_order =
    let a_step = fine.a_step in
    let right = counting_right g hs some_ticks fine in_order in
    let ns = sounding g hs in
    record {
      sounds = sounds_are g hs a_step right;
      ids = ids_are g hs a_step right;
      lengths = lengths_are g hs a_step right;
      text = text_is g hs a_step right;
      ends = ends_are g hs a_step right;
      posting_counts = counts_are g hs a_step right;
      ids_length = ap (λ (l : List ℕ). length l) (ids_are g hs a_step right) ∙ range_length 0 (bar_count g hs);
      lengths_length = ap (λ (l : List ℕ). length l) (lengths_are g hs a_step right) ∙ length-replicate (bar_count g hs) g.steps;
      text_length = ap (λ (l : List ℕ). length l) (text_is g hs a_step right) ∙ names_length ns;
      ends_length = ap (λ (l : List ℕ). length l) (ends_are g hs a_step right) ∙ ends_count 0 (map name_of ns) ∙ length-map ns name_of;
      posting_counts_length = ap (λ (l : List ℕ). length l) (counts_are g hs a_step right) ∙ length-map ns _;
      bars_few = bars_few g hs fine;
      sounds_few = heard_few (counted g hs).postings;
    }
