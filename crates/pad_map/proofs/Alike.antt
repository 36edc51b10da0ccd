-- Two maps that differ in velocities alone are handed to the writer as the same lists.
-- Assumes nothing.
use mathlib.Core.Path.{◌≡◌, refl, ap, ap₂, ◌∙◌}
use mathlib.Core.Bool.{Bool, true, false, cond}
use mathlib.Core.List.{List, [], ◌∷◌, map}
use Prim.Native.Nat.{ℕ, suc}
use lib.Dec.{eqb}
use Rattle.common.specs.Members.{kept}
use Rattle.segment.specs.Texts.{names}
use Rattle.segment.specs.Metadata.{document}
use Rattle.calls.specs.Given.{posting}
use Rattle.pad_map.specs.Bars.{Hit, Bar}
use Rattle.pad_map.specs.Acts.{of_sound, steps_of, postings_of, terms_of, given_of, write_out}
use Rattle.pad_map.specs.Claims.{HitsAlike, BarsAlike, VelocityUnwritten}

steps_alike : (s : ℕ) (hs ks : List Hit) → HitsAlike hs ks → steps_of s hs ≡ steps_of s ks
unfolding steps_of kept
steps_alike s [] [] a = refl
steps_alike s [] (k ∷ ks) a = absurd a
steps_alike s (h ∷ hs) [] a = absurd a
steps_alike s (h ∷ hs) (k ∷ ks) (sound, step, rest) =
    ap (λ (b : Bool). first b h hs) (ap (λ (n : ℕ). eqb n s) sound) ∙ go (eqb k.sound s) (steps_alike s hs ks rest)
  where
    first : Bool → Hit → List Hit → List ℕ
    first b x xs = map (λ y. y.step) (cond b (x ∷ kept (of_sound s) xs) (kept (of_sound s) xs))

    go : (b : Bool) → steps_of s hs ≡ steps_of s ks → first b h hs ≡ first b k ks
    go true ih = ap₂ ◌∷◌ step ih
    go false ih = ih

postings_alike : (s : ℕ) (bs cs : List Bar) → BarsAlike bs cs
    → map (λ (b : Bar). posting b.id (steps_of s b.hits)) bs ≡ map (λ (b : Bar). posting b.id (steps_of s b.hits)) cs
postings_alike s [] [] a = refl
postings_alike s [] (c ∷ cs) a = absurd a
postings_alike s (b ∷ bs) [] a = absurd a
postings_alike s (b ∷ bs) (c ∷ cs) (id, len, hits, rest) = rw (id, steps_alike s b.hits c.hits hits, postings_alike s bs cs rest)

documents_alike : (bs cs : List Bar) → BarsAlike bs cs
    → map (λ (b : Bar). document b.id b.len) bs ≡ map (λ (b : Bar). document b.id b.len) cs
documents_alike [] [] a = refl
documents_alike [] (c ∷ cs) a = absurd a
documents_alike (b ∷ bs) [] a = absurd a
documents_alike (b ∷ bs) (c ∷ cs) (id, len, hits, rest) = rw (id, len, documents_alike bs cs rest)

module _ (bs cs : List Bar) (a : BarsAlike bs cs) where
  sound_alike : (s : ℕ) → postings_of s bs ≡ postings_of s cs
  unfolding postings_of
  sound_alike s = rw (postings_alike s bs cs a)

  terms_alike : (s : ℕ) (ns : List (List ℕ)) → terms_of s ns bs ≡ terms_of s ns cs
  unfolding terms_of
  terms_alike s [] = refl
  terms_alike s (n ∷ ns) = rw (sound_alike s, terms_alike (suc s) ns)

  given_alike : (ns : List (List ℕ)) → given_of ns bs ≡ given_of ns cs
  unfolding given_of
  given_alike ns = rw (documents_alike bs cs a, terms_alike 0 ns)

pub velocity_unwritten : VelocityUnwritten
unfolding write_out
velocity_unwritten bs cs a text ends room = rw (given_alike bs cs a (names 0 ends text))
