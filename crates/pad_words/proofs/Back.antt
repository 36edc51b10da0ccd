-- What is stored is held, and what is held is stored.
-- Assumes nothing.
use Rattle.std.specs.Prelude.{None}
use mathlib.Core.Path.{◌≡◌, refl, sym, ap, ◌∙◌}
use mathlib.Core.Bool.{true}
use mathlib.Core.List.{List, [], ◌∷◌, ◌++◌, append_assoc}
use mathlib.Core.Logic.{inl, inr}
use Prim.Native.Nat.{ℕ, suc, ◌+◌, ◌*◌, ◌/◌, ◌%◌, ◌≤◌, ◌<◌}
use native.Mathlib.Omega.{arith}
use lib.ListN.{length, drop, get_or, length-append, length-drop}
use lib.Seq.{drop_at}
use borrow.Author.Tests.{le-leb, eq-eqb}
use Rattle.common.specs.Elements.{◌∈◌}
use Rattle.pad_map.specs.Bars.{Hit, Bar, hits_in_all}
use Rattle.pad_words.specs.Words.{pad_words, size, hit_words, bar_words, stored, hits_of, bars_of, held}
use Rattle.pad_words.specs.Whole.{bars_fine, whole}
use Rattle.pad_words.specs.Claims.{SoundsFit, HeldStored, StoredHeld}
use Rattle.pad_words.proofs.Wholes.{held_many, size_is, inside}
use Rattle.pad_words.proofs.Exactly.{bars_gives, whole_exactly}
use Rattle.pad_words.proofs.Words.{hit_words_length, bar_words_length, words_are}

abbrev HitsFit : List Hit → Type 0
HitsFit hs = (h : Hit) → h ∈ hs → h.sound < 256

-- a word of two numbers taken apart again
sound_back : (s v : ℕ) → s < 256 → (s + 256 * v) % 256 ≡ s
sound_back s v l = omega arith

velocity_back : (s v : ℕ) → s < 256 → (s + 256 * v) / 256 ≡ v
velocity_back s v l = omega arith

hits_back : (hs : List Hit) (free : List ℕ) → HitsFit hs → hits_of (length hs) (hit_words hs ++ free) ≡ hs
unfolding hits_of
hits_back [] free f = refl
hits_back (h ∷ hs) free f =
    let l = f h (inl refl) in
    rw (sound_back h.sound h.velocity l, velocity_back h.sound h.velocity l)
    (ap (λ (l : List Hit). h ∷ l) (hits_back hs free (λ k m. f k (inr m))))

bars_back : (bs : List Bar) (free : List ℕ) → SoundsFit bs → bars_of (length bs) (bar_words bs ++ free) ≡ bs
unfolding bars_of bar_words
bars_back [] free f = refl
bars_back (b ∷ bs) free f =
    let hw = hit_words b.hits in
    let bw = bar_words bs in
    let e : 3 + 2 * length b.hits ≡ suc (suc (suc (2 * length b.hits))) = omega arith in
    let a = append_assoc hw bw free in
    let d = drop_at hw (bw ++ free) (2 * length b.hits) (hit_words_length b.hits) in
    rw (e, a, hits_back b.hits (bw ++ free) (f b (inl refl)), d, bars_back bs free (λ c m. f c (inr m)))

pub held_stored : HeldStored
unfolding held stored
held_stored bars pad f = bars_back bars (drop (2 + size bars) pad) f

pub stored_held : StoredHeld
unfolding stored
stored_held pad w = rw (held_many pad, w.total) (sym (words_are pad (inside pad ((whole_exactly pad).1 w))))

module _ (bars : List Bar) (pad : List ℕ) where
  pub length_stored : 2 + size bars ≤ length pad → length (stored bars pad) ≡ length pad
  unfolding stored
  length_stored h =
      omega (arith, length-append (bar_words bars) (drop (2 + size bars) pad), bar_words_length bars, length-drop (2 + size bars) pad)

  first_word : get_or (stored bars pad) 0 0 ≡ length bars
  unfolding stored
  first_word = refl

  second_word : get_or (stored bars pad) 1 0 ≡ hits_in_all bars
  unfolding stored
  second_word = refl

  pub whole_stored : length pad ≡ pad_words → length bars ≤ 256 → hits_in_all bars ≤ 8192 → bars_fine None (hits_in_all bars) bars ≡ true
      → whole (stored bars pad) ≡ true
  unfolding whole
  whole_stored l b h f =
      let n : length (stored bars pad) ≡ pad_words = length_stored (omega (arith, size_is bars)) ∙ l in
      let fine = (bars_gives None (hits_in_all bars) bars f).1 in
      rw (
        held_stored bars pad (λ b m h k. omega (arith, (fine b m).sounds h k)),
        first_word,
        second_word,
        eq-eqb (length (stored bars pad)) pad_words n,
        le-leb (length bars) 256 b,
        le-leb (hits_in_all bars) 8192 h,
        f,
      )
