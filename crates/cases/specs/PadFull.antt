-- A full pad, and room in pieces (document 02, wish 6): 64 bars of 128 hits each; then every other bar erased. Document 02: "Room of an
-- erased bar serves the next", however small the pieces are.
use Rattle.std.specs.Prelude.{Ok, ℕ, ◌*◌, ◌+◌, ◌/◌, ◌%◌, ◌≡◌, refl, List, [], ◌∷◌, ◌++◌, map}
use Rattle.pad_map.specs.Bars.{Bar, bar, hits_in, without}
use Rattle.pad_map.specs.Acts.{save}
use Rattle.cases.specs.Through.{mapping}
use Rattle.cases.specs.Digits.{refused}
use Rattle.cases.specs.PadMade.{count_up}

-- so many hits in bars of 64 steps: sound 0 on every step, then sound 1, and so on
abbrev sounds : ℕ → List ℕ
sounds n = map (λ i. i / 64) (count_up 0 n)

abbrev steps : ℕ → List ℕ
steps n = map (λ i. i % 64) (count_up 0 n)

-- 1 to 127, and again
abbrev velocities : ℕ → List ℕ
velocities n = map (λ i. 1 + i % 127) (count_up 0 n)

abbrev bar_of : (id n : ℕ) → Bar
bar_of id n = bar id 64 (hits_in (sounds n) (steps n) (velocities n))

-- bars 0 to 63 of 128 hits: 8,192
abbrev full : List Bar
full = map (λ i. bar_of i 128) (count_up 0 64)

-- bars 1, 3, .. 63
abbrev half : List Bar
half = map (λ i. bar_of (2 * i + 1) 128) (count_up 0 32)

-- not one hit more. Fails: a limit over each bar
one_more : save full 100 64 (0 ∷ []) (0 ∷ []) (1 ∷ []) ≡ refused 19 0 0
unfolding mapping
one_more = refl

-- but a bar without hits, the 65th. Fails: full is full
no_hit_more : save full 100 64 [] [] [] ≡ Ok (full ++ bar 100 64 [] ∷ [])
unfolding mapping
no_hit_more = refl

-- bars erased one after the other
abbrev erased : List ℕ → List Bar → List Bar
erased [] bars = bars
erased (i ∷ is) bars = erased is (without i bars)

-- bars 0, 2, .. 62 erased. Fails: the next bar erased, all bars from the id on
evens_erased : erased (map (λ i. 2 * i) (count_up 0 32)) full ≡ half
unfolding mapping
evens_erased = refl

-- 32 gaps of 128 hits: one bar of 4,096 hits takes them all. Fails: 19 for want of a gap so long
all_gaps : save half 200 64 (sounds 4096) (steps 4096) (velocities 4096) ≡ Ok (half ++ bar_of 200 4096 ∷ [])
unfolding mapping
all_gaps = refl

-- one hit more is 19. Fails: the room of erased bars counted twice
past_the_gaps : save half 200 64 (sounds 4097) (steps 4097) (velocities 4097) ≡ refused 19 0 0
unfolding mapping
past_the_gaps = refl
