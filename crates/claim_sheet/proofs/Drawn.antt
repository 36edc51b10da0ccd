-- Decoded sounds in words: a line for each that has a hit in the bar; and the sheet of them is the bar on paper.
-- Assumes nothing.
use mathlib.Core.Path.{◌≡◌, refl, sym, ap, ◌∙◌, subst}
use mathlib.Core.List.{List, [], ◌∷◌, ◌++◌, append_assoc}
use mathlib.Core.Logic.{inl, inr}
use Prim.Native.Nat.{ℕ, ◌≤◌, ◌<◌}
use native.Mathlib.Omega.{arith}
use lib.ListN.{length}
use Rattle.common.specs.Elements.{◌∈◌}
use Rattle.utf8.specs.Utf8.{text}
use Rattle.segment.specs.Records.{Term}
use Rattle.segment.proofs.Within.{below_gives}
use Rattle.calls.specs.Sheet.{sound_lines, sheet}
use Rattle.claim_sheet.specs.Words.{SoundLine, SoundLines, none, silent, drawn, OnPaper, in_bytes}
use Rattle.claim_sheet.proofs.Marks.{mark_hit, mark_other, mark_past}
use Rattle.claim_sheet.proofs.Hitting.{Fits, hits_of, hits_are, are_hits}
use Rattle.claim_sheet.proofs.First.{first_characters, heading_is, first_line}
use Rattle.claim_sheet.proofs.Sound.{sound_characters, sound_line_is, is_line, step_at, has_name, has_number, as_many}

-- a line and its line feed in front of the other lines
in_front : (line : List ℕ) (rest : List ℕ) (lines : List (List ℕ)) → rest ≡ in_bytes lines
    → (text line ++ 10 ∷ []) ++ rest ≡ in_bytes (line ∷ lines)
in_front line rest lines e = append_assoc (text line) (10 ∷ []) rest ∙ ap (λ (l : List ℕ). text line ++ 10 ∷ l) e

module _ (id len : ℕ) (short : len ≤ 64) where
  -- ---- one sound

  module _ (t : Term) (f : Fits id len t) where
    drawn_line : SoundLine t id len (sound_characters len t.name (hits_of t id))
    drawn_line =
        let hits = hits_of t id in
        let are = hits_are id t f.documents_rise in
        let at = step_at len t.name hits in
        let below = below_gives len hits f.below in
        let few : length hits ≤ 64 = omega (arith, f.few) in
        record {
          is_line = is_line len t.name hits few;
          name = has_name len t.name hits;
          hit = λ s h. (
            λ e. (are s).0 ((mark_hit len hits s).0 (sym (at s h) ∙ e)),
            λ x. at s h ∙ (mark_hit len hits s).1 ((are s).1 x),
          );
          other = λ s h inside no_hit. at s h ∙ mark_other len hits s (λ m. no_hit ((are s).0 m)) inside;
          past = λ s h far. at s h ∙ mark_past len hits s (λ m. omega (arith, below s m)) far;
          inside = λ s x. below s ((are s).1 x);
          hits = length hits;
          are_hits = are_hits id len t f;
          as_many = as_many len t.name hits f.rise (λ s m. omega (arith, below s m));
          number = has_number len t.name hits few;
        }

  -- ---- all of them

  record Lines (ts : List Term) : Type 0 where
    lines : List (List ℕ)
    words : SoundLines id len ts lines
    bytes : sound_lines id len ts ≡ in_bytes lines

  one_more : (t : Term) (ts : List Term) → Fits id len t → Lines ts → (hits : List ℕ) → hits_of t id ≡ hits → Lines (t ∷ ts)
  unfolding sound_lines
  one_more t ts f more [] e = record {
    lines = more.lines;
    words =
        silent (λ s x. subst (λ (xs : List ℕ). s ∈ xs) e ((hits_are id t f.documents_rise s).1 x)) more.words;
    bytes = rw e more.bytes;
  }
  one_more t ts f more (h ∷ hs) e = record {
    lines = sound_characters len t.name (hits_of t id) ∷ more.lines;
    words =
        drawn h ((hits_are id t f.documents_rise h).0 (subst (λ (xs : List ℕ). h ∈ xs) (sym e) (inl refl))) (drawn_line t f)
        more.words;
    bytes =
        rw e
        (ap (λ (l : List ℕ). l ++ sound_lines id len ts) (sound_line_is len t.name (h ∷ hs))
        ∙ in_front (sound_characters len t.name (h ∷ hs)) (sound_lines id len ts) more.lines more.bytes);
  }

  all_lines : (ts : List Term) → ((t : Term) → t ∈ ts → Fits id len t) → Lines ts
  unfolding sound_lines
  all_lines [] fit = record { lines = []; words = none; bytes = refl }
  all_lines (t ∷ ts) fit = one_more t ts (fit t (inl refl)) (all_lines ts (λ u m. fit u (inr m))) (hits_of t id) refl

  pub on_paper : id < 10000000000 → (ts : List Term) → ((t : Term) → t ∈ ts → Fits id len t) → OnPaper id len ts (sheet id len ts)
  unfolding sheet
  on_paper small ts fit =
      let all = all_lines ts fit in
      record {
        first = first_characters id len;
        others = all.lines;
        first_line = first_line id len small (omega arith);
        sound_lines = all.words;
        are_bytes =
            ap (λ (l : List ℕ). l ++ sound_lines id len ts) (heading_is id len)
            ∙ in_front (first_characters id len) (sound_lines id len ts) all.lines all.bytes;
      }
