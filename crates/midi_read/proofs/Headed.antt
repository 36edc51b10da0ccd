-- Header and heading in words, and as they are read: the same. With the track, so is the whole file.
-- Assumes nothing.
use Rattle.std.specs.Prelude.{Ok}
use mathlib.Core.Path.{◌≡◌, refl, sym, ap, ◌∙◌}
use mathlib.Core.Bool.{true, ◌&&◌}
use mathlib.Core.List.{List, ◌∷◌, ◌++◌}
use Prim.Native.Nat.{ℕ, ◌+◌, ◌*◌, ◌/◌, ◌%◌, ◌≤◌}
use native.Mathlib.Omega.{arith}
use lib.Dec.{ltb, leb, eqb}
use lib.ListN.{length, take, drop, get_or, take-append-drop, length-drop}
use lib.Seq.{drop-drop}
use borrow.Author.Tests.{ltb-true, leb-true, eqb-true, lt-ltb, le-leb, eq-eqb}
use Rattle.common.proofs.Loops.{drop_step, and_left, and_right}
use Rattle.segment.specs.Names.{same}
use Rattle.segment.specs.Refusals.{too_large, midi_file}
use Rattle.segment.specs.Results.{◌>>=◌}
use Rattle.segment.proofs.Binds.{bind_gives, ok_same}
use Rattle.segment.proofs.Accepted.{check_gives}
use Rattle.segment.proofs.Inversions.{last_gives}
use Rattle.segment.proofs.Strings.{same_is, same_refl}
use Rattle.midi_read.specs.declared.track.Hit.{Hit}
use Rattle.midi_read.specs.Files.{Grid, grid, big_endian, big_field, header_start, heading_start, division_fits, header, heading}
use Rattle.midi_read.specs.Files.{chunks, hits}
use Rattle.midi_read.specs.Tracks.{IsFile, ChunksSo, WithinRules}
use Rattle.midi_read.specs.Claims.{ChunksExactly, FilesExactly}
use Rattle.midi_read.proofs.Tracks.{tracks_exactly}

-- two and four bytes from an offset on
two_at : (file : List ℕ) (at : ℕ) → at + 2 ≤ length file → drop at file ≡ get_or file at 0 ∷ get_or file (at + 1) 0 ∷ drop (at + 2) file
two_at file at h =
    let f : at + 1 + 1 ≡ at + 2 = omega arith in
    drop_step file at 0 (omega arith)
    ∙ ap (λ (l : List ℕ). get_or file at 0 ∷ l) (drop_step file (at + 1) 0 (omega arith) ∙ ap (λ k. get_or file (at + 1) 0 ∷ drop k file) f)

module _ (steps quarter : ℕ) (file : List ℕ) where
  module _ (small : length file ≤ 16777216) (long : 22 ≤ length file) (starts : take 12 file ≡ header_start)
      (heads : take 4 (drop 14 file) ≡ heading_start) where
    whole : file
        ≡ 0x4D ∷ 0x54 ∷ 0x68 ∷ 0x64 ∷ 0 ∷ 0 ∷ 0 ∷ 6 ∷ 0 ∷ 0 ∷ 0 ∷ 1 ∷ get_or file 12 0 ∷ get_or file 13 0 ∷ 0x4D ∷ 0x54 ∷ 0x72 ∷ 0x6B
        ∷ get_or file 18 0 ∷ get_or file 19 0 ∷ get_or file 20 0 ∷ get_or file 21 0 ∷ drop 22 file
    whole =
        sym (take-append-drop 12 file)
        ∙ ap (λ (l : List ℕ). l ++ drop 12 file) starts
        ∙ ap (λ (l : List ℕ). header_start ++ l)
        (two_at file 12 (omega arith)
        ∙ ap (λ (l : List ℕ). get_or file 12 0 ∷ get_or file 13 0 ∷ l)
        (sym (take-append-drop 4 (drop 14 file))
        ∙ ap (λ (l : List ℕ). l ++ drop 4 (drop 14 file)) heads
        ∙ ap (λ (l : List ℕ). heading_start ++ l)
        (drop-drop 4 14 file
        ∙ two_at file 18 (omega arith)
        ∙ ap (λ (l : List ℕ). get_or file 18 0 ∷ get_or file 19 0 ∷ l) (two_at file 20 (omega arith)))))

    division_so : big_field 2 12 file ≡ get_or file 12 0 * 256 + get_or file 13 0
    division_so = ap (λ (l : List ℕ). big_endian 0 (take 2 l)) (two_at file 12 (omega arith)) ∙ omega arith

    length_so : big_field 4 18 file ≡ get_or file 18 0 * 16777216 + get_or file 19 0 * 65536 + get_or file 20 0 * 256 + get_or file 21 0
    length_so =
        ap (λ (l : List ℕ). big_endian 0 (take 4 l))
        (two_at file 18 (omega arith) ∙ ap (λ (l : List ℕ). get_or file 18 0 ∷ get_or file 19 0 ∷ l) (two_at file 20 (omega arith)))
        ∙ omega arith

    in_words : division_fits quarter (big_field 2 12 file) ≡ true → 22 + big_field 4 18 file ≡ length file
        → IsFile quarter file (big_field 2 12 file) (drop 22 file)
    in_words d l =
        let whole_parts = eqb-true _ 0 (and_right (ltb 0 (big_field 2 12 file) && leb (big_field 2 12 file) 32767) _ d) in
        let both = and_left (ltb 0 (big_field 2 12 file) && leb (big_field 2 12 file) 32767) _ d in
        record {
          small = small;
          d₁ = get_or file 12 0;
          d₀ = get_or file 13 0;
          s₃ = get_or file 18 0;
          s₂ = get_or file 19 0;
          s₁ = get_or file 20 0;
          s₀ = get_or file 21 0;
          bytes_are = whole;
          division_is = division_so;
          some_ticks = ltb-true 0 (big_field 2 12 file) (and_left _ _ both);
          at_most_32767 = leb-true _ _ (and_right (ltb 0 (big_field 2 12 file)) _ both);
          multiple = whole_parts;
          length_is = sym length_so ∙ omega (arith, length-drop 22 file, l);
        }

  chunks_said : (g : Grid) → chunks steps quarter file ≡ Ok g → ChunksSo steps quarter file g
  unfolding chunks header heading
  chunks_said g f =
      let (a, f₁) = check_gives (leb (length file) 16777216) too_large _ f in
      let (ticks, h, f₂) = bind_gives (header quarter file) _ f₁ in
      let (_, k, f₃) = bind_gives (heading file) _ f₂ in
      let (_, h₁) = check_gives (leb 14 (length file)) (midi_file 0) _ h in
      let (b, h₂) = check_gives (same (take 12 file) header_start) (midi_file 0) _ h₁ in
      let (c, h₃) = check_gives (division_fits quarter (big_field 2 12 file)) (midi_file 0) _ h₂ in
      let (d, k₁) = check_gives (leb 22 (length file)) (midi_file 14) _ k in
      let (e, k₂) = check_gives (same (take 4 (drop 14 file)) heading_start) (midi_file 14) _ k₁ in
      let l = eqb-true _ _ (last_gives (eqb (22 + big_field 4 18 file) (length file)) (midi_file 14) k₂) in
      record {
        division = big_field 2 12 file;
        track = drop 22 file;
        is = in_words (leb-true _ _ a) (leb-true _ _ d) ((same_is _ _).0 b) ((same_is _ _).0 e) c l;
        grid_is = sym (ok_same f₃) ∙ ap (λ t. grid t steps) (sym (ok_same h₃));
      }

-- ---- and back

module _ (quarter division : ℕ) (track : List ℕ) (d₁ d₀ s₃ s₂ s₁ s₀ : ℕ) where
  abbrev F : List ℕ
  F = 0x4D ∷ 0x54 ∷ 0x68 ∷ 0x64 ∷ 0 ∷ 0 ∷ 0 ∷ 6 ∷ 0 ∷ 0 ∷ 0 ∷ 1 ∷ d₁ ∷ d₀ ∷ 0x4D ∷ 0x54 ∷ 0x72 ∷ 0x6B ∷ s₃ ∷ s₂ ∷ s₁ ∷ s₀ ∷ track

  header_read : division ≡ d₁ * 256 + d₀ → 1 ≤ division → division ≤ 32767 → division % quarter ≡ 0
      → header quarter F ≡ Ok (division / quarter)
  unfolding header
  header_read is some most multiple =
      let field : big_field 2 12 F ≡ division = omega arith in
      rw (
        le-leb 14 (length F) (omega arith),
        same_refl header_start,
        field,
        lt-ltb 0 division (omega arith),
        le-leb division 32767 most,
        eq-eqb (division % quarter) 0 multiple,
      )

  heading_read : s₃ * 16777216 + s₂ * 65536 + s₁ * 256 + s₀ ≡ length track → heading F ≡ Ok tt
  unfolding heading
  heading_read is =
      let field : 22 + big_field 4 18 F ≡ length F = omega arith in
      rw (le-leb 22 (length F) (omega arith), same_refl heading_start, eq-eqb (22 + big_field 4 18 F) (length F) field)

chunks_read : (steps quarter : ℕ) (file : List ℕ) (g : Grid) → ChunksSo steps quarter file g → chunks steps quarter file ≡ Ok g
unfolding chunks
chunks_read steps quarter file g c =
    let i = c.is in
    let h : header quarter file ≡ Ok (c.division / quarter) =
    ap (header quarter) i.bytes_are
    ∙ header_read quarter c.division c.track i.d₁ i.d₀ i.s₃ i.s₂ i.s₁ i.s₀
    i.division_is i.some_ticks i.at_most_32767 i.multiple in
    let k : heading file ≡ Ok tt =
    ap heading i.bytes_are
    ∙ heading_read quarter c.division c.track i.d₁ i.d₀ i.s₃ i.s₂ i.s₁ i.s₀ i.length_is in
    rw (le-leb (length file) 16777216 i.small, h, k) (ap Ok (sym c.grid_is))

pub chunks_exactly : ChunksExactly
chunks_exactly steps quarter file g = (chunks_said steps quarter file g, chunks_read steps quarter file g)

-- ---- the file

files_said : (steps quarter : ℕ) (file : List ℕ) (hs : List Hit) (g : Grid) → chunks steps quarter file ≡ Ok g → hits g file ≡ Ok hs
    → WithinRules steps quarter file hs
files_said steps quarter file hs g c h =
    let i = chunks_said steps quarter file g c in
    let p = (tracks_exactly g file hs).0 h in
    let behind : drop 22 file ≡ i.track = ap (drop 22) i.is.bytes_are in
    record {
      division = i.division;
      track = i.track;
      events = p.events;
      is_file = i.is;
      is_track = rw behind at p.track;
      hits_are = p.hits_are;
      near = λ h m. rw i.grid_is at (p.near h m);
    }

pub files_exactly : FilesExactly
files_exactly steps quarter file hs = (to, from)
  where
    to : (chunks steps quarter file >>= (λ g. hits g file)) ≡ Ok hs → WithinRules steps quarter file hs
    to f = let (g, c, h) = bind_gives (chunks steps quarter file) _ f in files_said steps quarter file hs g c h

    from : WithinRules steps quarter file hs → (chunks steps quarter file >>= (λ g. hits g file)) ≡ Ok hs
    from w =
        let behind : w.track ≡ drop 22 file = sym (ap (drop 22) w.is_file.bytes_are) in
        let c = chunks_read steps quarter file (grid (w.division / quarter) steps)
        (record { division = w.division; track = w.track; is = w.is_file; grid_is = refl }) in
        let h = (tracks_exactly (grid (w.division / quarter) steps) file hs).1
        (record { events = w.events; track = rw behind at w.is_track; hits_are = w.hits_are; near = w.near }) in
        rw (c, h)
