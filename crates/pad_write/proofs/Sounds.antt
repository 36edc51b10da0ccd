-- The terms of the sounds still to come: one sound more, with hits or without; and how long their names and lists are at most.
-- Assumes nothing.
use mathlib.Core.Path.{◌≡◌, refl, sym, ap, ◌∙◌}
use mathlib.Core.Bool.{Bool, true, false, cond, ◌&&◌}
use mathlib.Core.List.{List, [], ◌∷◌, map}
use Prim.Native.Nat.{ℕ, ◌+◌, ◌-◌, ◌≤◌, ◌<◌}
use native.Mathlib.Numerals.{add-one}
use native.Mathlib.Omega.{arith}
use lib.Dec.{ltb, leb}
use lib.ListN.{length, drop, get_or, length-append, length-drop, length-map}
use lib.Seq.{drop-drop, length-take-le}
use borrow.Author.Tests.{leb-true, lt-ltb, le-ltb}
use Rattle.common.specs.Lists.{joined}
use Rattle.common.specs.Members.{kept}
use Rattle.common.proofs.Loops.{and_left, and_right, drop_step, drop_end}
use Rattle.common.proofs.Kept.{kept_fewer}
use Rattle.segment.specs.Records.{Posting, between}
use Rattle.segment.specs.Texts.{ends_fit, names}
use Rattle.calls.specs.Given.{posting, term}
use Rattle.calls.proofs.Parts.{ends_last}
use Rattle.pad_map.specs.Bars.{Bar, hits_in_all}
use Rattle.pad_map.specs.Acts.{of_sound, steps_of, has_steps, postings_of, terms_of}
use Rattle.pad_write.specs.Steps.{terms_from}

-- ---- the text's ends

-- a sound's name lies in what is left of the text
record NameThere (text ends : List ℕ) (s from : ℕ) : Type 0 where
  up : from ≤ get_or ends s 0
  inside : get_or ends s 0 ≤ length text
  rest : ends_fit (get_or ends s 0) (drop (s + 1) ends) (length text) ≡ true

name_there : (text ends : List ℕ) (s from : ℕ) → ends_fit from (drop s ends) (length text) ≡ true → s < length ends
    → NameThere text ends s from
unfolding ends_fit
name_there text ends s from fit h =
    let e = get_or ends s 0 in
    let turn : leb from e && ends_fit e (drop (s + 1) ends) (length text) ≡ true = rw (drop_step ends s 0 h) at fit in
    let rest = and_right (leb from e) (ends_fit e (drop (s + 1) ends) (length text)) turn in
    record {
      up = leb-true from e (and_left (leb from e) (ends_fit e (drop (s + 1) ends) (length text)) turn);
      inside = ends_last e (length text) (drop (s + 1) ends) rest;
      rest = rest;
    }

-- ---- one sound more

module _ (bars : List Bar) (text ends : List ℕ) where
  pub come_all : terms_from bars text ends 0 0 ≡ terms_of 0 (names 0 ends text) bars
  unfolding terms_from
  come_all = refl

  pub come_end : (s from : ℕ) → length ends ≤ s → terms_from bars text ends s from ≡ []
  unfolding terms_from terms_of names
  come_end s from h = rw (drop_end ends s h)

  module _ (s from : ℕ) (h : s < length ends) (up : from ≤ get_or ends s 0) where
    abbrev end : ℕ
    end = get_or ends s 0

    come_turn : terms_from bars text ends s from
        ≡ cond (ltb 0 (length (postings_of s bars)))
        (term (between from end text) (postings_of s bars) ∷ terms_from bars text ends (s + 1) end)
        (terms_from bars text ends (s + 1) end)
    unfolding terms_from terms_of names
    come_turn =
        let e : from + (end - from) ≡ end = omega arith in
        rw (drop_step ends s 0 h, drop-drop (end - from) from text, e, add-one s)

    come_used : 0 < length (postings_of s bars)
        → terms_from bars text ends s from ≡ term (between from end text) (postings_of s bars) ∷ terms_from bars text ends (s + 1) end
    come_used k = come_turn ∙ rw (lt-ltb 0 (length (postings_of s bars)) k)

    come_unused : length (postings_of s bars) ≡ 0 → terms_from bars text ends s from ≡ terms_from bars text ends (s + 1) end
    come_unused k = come_turn ∙ rw (le-ltb 0 (length (postings_of s bars)) (omega arith))

pub name_length : (text : List ℕ) (from end : ℕ) → from ≤ end → end ≤ length text → length (between from end text) ≡ end - from
name_length text from end h k = length-take-le (end - from) (drop from text) (omega (arith, length-drop from text))

-- what the next sound's end, and its n postings, say of the terms to come
pub record NextSound (bars : List Bar) (text ends : List ℕ) (s from n end : ℕ) (ps : List Posting) : Type 0 where
  pub few : s + 1 ≤ length ends
  pub order : from ≤ end
  pub inside : end ≤ length text
  pub rest : ends_fit end (drop (s + 1) ends) (length text) ≡ true
  pub size : length (between from end text) ≡ end - from
  pub count : n ≡ length ps
  pub skipped : n ≡ 0 → terms_from bars text ends s from ≡ terms_from bars text ends (s + 1) end
  pub taken : 0 < n → terms_from bars text ends s from ≡ term (between from end text) ps ∷ terms_from bars text ends (s + 1) end

pub next_sound : (bars : List Bar) (text ends : List ℕ) (s from : ℕ) {n end : ℕ} {ps : List Posting}
    → ends_fit from (drop s ends) (length text) ≡ true → s < length ends → end ≡ get_or ends s 0 → n ≡ length (postings_of s bars)
    → ps ≡ postings_of s bars
    → NextSound bars text ends s from n end ps
next_sound bars text ends s from {n} {end} {ps} fit h is_end is_n is =
    let t = name_there text ends s from fit h in
    let up : from ≤ end = omega (arith, t.up) in
    let inside : end ≤ length text = omega (arith, t.inside) in
    record {
      few = omega arith;
      order = up;
      inside = inside;
      rest = rw is_end t.rest;
      size = name_length text from end up inside;
      count = is_n ∙ ap length (sym is);
      skipped = λ z. come_unused bars text ends s from h t.up (sym is_n ∙ z) ∙ rw is_end;
      taken = λ k. come_used bars text ends s from h t.up (omega arith) ∙ rw (is_end, is);
    }

-- ---- at most so many

-- a bar has at most one posting
pub postings_few : (s : ℕ) (bars : List Bar) → length (postings_of s bars) ≤ length bars
unfolding postings_of
postings_few s bars =
    omega (
      arith,
      kept_fewer has_steps (map (λ b. posting b.id (steps_of s b.hits)) bars),
      length-map bars (λ b. posting b.id (steps_of s b.hits)),
    )

abbrev pub positions_in : List Posting → List ℕ
positions_in ps = joined (map (λ p. p.positions) ps)

-- no more positions than hits
pub positions_few : (s : ℕ) (bars : List Bar) → length (positions_in (postings_of s bars)) ≤ hits_in_all bars
unfolding postings_of kept steps_of
positions_few s [] = omega arith
positions_few s (b ∷ bs) =
    step (has_steps (posting b.id (steps_of s b.hits))) (positions_few s bs)
    (omega (arith, kept_fewer (of_sound s) b.hits, length-map (kept (of_sound s) b.hits) (λ h. h.step)))
  where
    step : (t : Bool) → length (positions_in (postings_of s bs)) ≤ hits_in_all bs → length (steps_of s b.hits) ≤ length b.hits
        → length (positions_in (cond t (posting b.id (steps_of s b.hits) ∷ postings_of s bs) (postings_of s bs)))
        ≤ length b.hits + hits_in_all bs
    step true h k = omega (arith, length-append (steps_of s b.hits) (positions_in (postings_of s bs)))
    step false h k = omega arith
