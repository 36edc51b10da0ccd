-- Split at its line feeds, a sheet is lines of 80 characters in UTF-8.
-- Assumes nothing.
use mathlib.Core.Path.{◌≡◌, refl, sym, ap, ◌∙◌}
use mathlib.Core.List.{List, [], ◌∷◌, ◌++◌, map}
use mathlib.Core.Logic.{inl, inr}
use Prim.Native.Nat.{ℕ}
use lib.ListN.{length}
use borrow.Author.Tests.{ne_eqb}
use Rattle.common.specs.Elements.{◌∈◌}
use Rattle.common.proofs.Elements.{each}
use Rattle.common.proofs.Membership.{map_gives}
use Rattle.utf8.specs.Utf8.{text, decoded}
use Rattle.utf8.proofs.Decoded.{decodes}
use Rattle.segment.specs.Records.{Term}
use Rattle.claim_sheet.specs.Words.{Line, SoundLines, none, silent, drawn, in_bytes}
use Rattle.claim_sheet.specs.Claims.{split, onto_first, EightyWide, AlwaysEightyWide}
use Rattle.claim_sheet.proofs.Printing.{Unbroken, unbroken_text}
use Rattle.claim_sheet.proofs.Agreed.{sheet_in_words}

-- up to the first line feed
split_one : (piece rest : List ℕ) → Unbroken piece → split (piece ++ 10 ∷ rest) ≡ piece ∷ split rest
unfolding split
split_one [] rest u = refl
split_one (b ∷ piece) rest u =
    rw (ne_eqb b 10 (λ e. u (inl (sym e))))
    (ap (onto_first b) (split_one piece rest (λ m. u (inr m))))

abbrev AllLines : List (List ℕ) → Type 0
AllLines lines = (line : List ℕ) → line ∈ lines → Line line

split_all : (lines : List (List ℕ)) → AllLines lines → split (in_bytes lines) ≡ map text lines ++ [] ∷ []
unfolding split
split_all [] all = refl
split_all (line ∷ lines) all =
    split_one (text line) (in_bytes lines) (unbroken_text line (all line (inl refl)).one_line)
    ∙ ap (λ (pieces : List (List ℕ)). text line ∷ pieces) (split_all lines (λ l m. all l (inr m)))

sounds_are_lines : (id len : ℕ) {ts : List Term} {lines : List (List ℕ)} → SoundLines id len ts lines → AllLines lines
sounds_are_lines id len none l m = absurd m
sounds_are_lines id len (silent none_here more) l m = sounds_are_lines id len more l m
sounds_are_lines id len (drawn {line = x} {lines = xs} s h a more) l m = each Line x xs a.is_line (sounds_are_lines id len more) l m

wide : {bytes : List ℕ} (lines : List (List ℕ)) → AllLines lines → bytes ≡ in_bytes lines → EightyWide bytes
wide lines all is = record {
  lines = map text lines;
  are = ap split is ∙ split_all lines all;
  encoded = λ l m.
      let (x, k, e) = map_gives text lines l m in
      record { values = x; scalars = (all x k).characters; encoded = e };
  wide = λ l m.
      let (x, k, e) = map_gives text lines l m in
      ap (λ (y : List ℕ). length (decoded y)) e ∙ ap length (decodes x (all x k).characters) ∙ (all x k).wide;
}

pub always_eighty_wide : AlwaysEightyWide
always_eighty_wide bytes id text e =
    let w = (sheet_in_words bytes id text).0 e in
    let p = w.on_paper in
    wide (p.first ∷ p.others)
    (each Line p.first p.others p.first_line.is_line (sounds_are_lines id w.len p.sound_lines))
    p.are_bytes
