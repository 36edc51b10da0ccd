-- What is done with the map, and what each call answers of it: document 02's refusals in its order, apart from 20, which is the words'.
use Rattle.std.specs.Prelude.{Err, None, Ok, Option, Some}
use Rattle.std.specs.Prelude.{ℕ, suc, ◌+◌, Bool, true, false, not, cond, ◌&&◌, List, [], ◌∷◌, map, ltb, leb, eqb, length}
use Rattle.common.specs.Members.{kept}
use Rattle.segment.specs.Refusals.{too_large, list_shape, unknown_bar, already_held, pad_full}
use Rattle.segment.specs.Results.{Answer, ◌>>=◌, check, roomy}
use Rattle.segment.specs.Records.{Posting, Term, Given}
use Rattle.segment.specs.Metadata.{document}
use Rattle.segment.specs.Texts.{names, ends_fit}
use Rattle.calls.specs.Given.{posting, term, laid_flat}
use Rattle.calls.specs.Writing.{write}
use Rattle.pad_map.specs.Bars.{Hit, Bar, bar, hits_in, lookup, insert, hits_in_all}
use Rattle.pad_map.specs.Rules.{check_hits}

-- ---- saving and erasing

abbrev pub is_some : {A : Type 0} → Option A → Bool
is_some None = false
is_some (Some a) = true

-- the map afterwards: 18; the lists; 19, which goes by the numbers of bars and hits held and by nothing else
unfoldable pub save : (bars : List Bar) (id len : ℕ) (sounds steps velocities : List ℕ) → Answer (List Bar)
save bars id len ss ts vs = do
  _ ← check (not (is_some (lookup bars id))) already_held
  _ ← check_hits len ss ts vs
  _ ← check (ltb (length bars) 256 && leb (hits_in_all bars + length ss) 8192) pad_full
  Ok (insert (bar id len (hits_in ss ts vs)) bars)

-- the bar under an id, or 16
abbrev pub found : Option Bar → Answer Bar
found None = Err unknown_bar
found (Some b) = Ok b

-- the bar that was erased; `without` is the map afterwards
abbrev pub erase : (bars : List Bar) (id : ℕ) → Answer Bar
erase bars id = found (lookup bars id)

-- ---- reading back: 16; 13 looks at sounds, then steps, then velocities

unfoldable pub read : (bars : List Bar) (id sounds_room steps_room velocities_room : ℕ) → Answer Bar
read bars id sr tr vr = do
  b ← found (lookup bars id)
  _ ← roomy 1 (length b.hits) sr
  _ ← roomy 2 (length b.hits) tr
  _ ← roomy 3 (length b.hits) vr
  Ok b

-- ---- writing out: what is handed to the writer

-- the steps of a sound in a bar
abbrev pub of_sound : (sound : ℕ) → Hit → Bool
of_sound s h = eqb h.sound s

unfoldable pub steps_of : (sound : ℕ) → List Hit → List ℕ
steps_of s hits = map (λ h. h.step) (kept (of_sound s) hits)

abbrev pub has_steps : Posting → Bool
has_steps p = ltb 0 (length p.positions)

-- the bars that have the sound, by rising id
unfoldable pub postings_of : (sound : ℕ) → List Bar → List Posting
postings_of s bars = kept has_steps (map (λ b. posting b.id (steps_of s b.hits)) bars)

-- sounds by rising number, from one on, each with its name; a sound without hits is left out
unfoldable pub terms_of : (sound : ℕ) (names : List (List ℕ)) → List Bar → List Term
terms_of s [] bars = []
terms_of s (n ∷ ns) bars =
    let later = terms_of (suc s) ns bars in
    cond (ltb 0 (length (postings_of s bars))) (term n (postings_of s bars) ∷ later) later

unfoldable pub given_of : (names : List (List ℕ)) → List Bar → Given
given_of ns bars = record { documents = map (λ b. document b.id b.len) bars; terms = terms_of 0 ns bars }

-- 12; 11 for another number of ends than 128, and for a text without its shape; then what the writer answers of the map's lists
unfoldable pub write_out : (bars : List Bar) (text ends : List ℕ) (room : ℕ) → Answer (List ℕ)
write_out bars text ends room = do
  _ ← check (leb (length text) 16777216 && leb (length ends) 16777216) too_large
  _ ← check (eqb (length ends) 128 && ends_fit 0 ends (length text)) list_shape
  write (laid_flat (given_of (names 0 ends text) bars)) room
