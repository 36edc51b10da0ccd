-- How many bytes a pad takes at most: every hit is one position of one term, and no posting is without positions.
-- Assumes nothing.
use Rattle.std.specs.Prelude.{None, Option, Some}
use mathlib.Core.Path.{◌≡◌, refl, sym, ap, ◌∙◌, subst}
use mathlib.Core.Bool.{Bool, true, false, cond}
use mathlib.Core.List.{List, [], ◌∷◌, map}
use mathlib.Core.Logic.{inl, inr}
use Prim.Native.Nat.{ℕ, suc, ◌+◌, ◌*◌, ◌≤◌, ◌<◌}
use native.Mathlib.Omega.{arith}
use lib.Dec.{ltb, leb, eqb}
use lib.ListN.{length, length-append, length-map}
use borrow.Author.Tests.{eqb-true, leb-true, le-leb}
use Rattle.common.specs.Elements.{◌∈◌}
use Rattle.common.specs.Lists.{joined}
use Rattle.common.specs.Members.{kept}
use Rattle.common.proofs.Kept.{kept_fewer}
use Rattle.common.proofs.Loops.{true_false}
use Rattle.leb128.proofs.Shortest.{encoded_size}
use Rattle.segment.specs.Records.{Document, Posting, Term, gap}
use Rattle.segment.specs.Metadata.{document}
use Rattle.segment.specs.Texts.{names}
use Rattle.segment.specs.Written.{name_bytes}
use Rattle.segment.proofs.Shapes.{shape_is}
use Rattle.calls.specs.Given.{posting, term}
use Rattle.calls.specs.Sizes.{documents_size, postings_size, terms_size, segment_size}
use Rattle.calls.proofs.Accepts.{accepted_is}
use Rattle.calls.proofs.Sizes.{segment_length, posting_takes}
use Rattle.calls.proofs.Unflat.{given_back}
use Rattle.pad_map.specs.Bars.{Hit, Bar, hits_in_all}
use Rattle.pad_map.specs.Acts.{of_sound, steps_of, has_steps, postings_of, terms_of, given_of}
use Rattle.pad_words.specs.Words.{held}
use Rattle.pad_words.specs.Whole.{Whole}
use Rattle.pad_words.proofs.Exactly.{whole_exactly}
use Rattle.pad_write.proofs.Bounds.{documents_of, pad_terms, bars_few, terms_few}
use Rattle.pad_write.proofs.Sounds.{positions_in}
use Rattle.claim_pad.specs.Written.{NamesShaped, map_lists}
use Rattle.claim_pad.specs.Claims.{most_bytes, AlwaysEnough}
use Rattle.claim_pad.proofs.Listed.{terms_gives, postings_gives}
use Rattle.claim_pad.proofs.Writable.{written_gives}

-- ---- bytes by documents, terms and positions

documents_take : (previous : Option ℕ) (ds : List Document) → documents_size previous ds ≤ 10 * length ds
unfolding documents_size
documents_take previous [] = omega arith
documents_take previous (d ∷ ds) =
    omega (arith, encoded_size (gap previous d.id), encoded_size d.len, documents_take (Some d.id) ds)

-- 10 for a posting, which has a position, and 5 for each position
postings_take : (previous : Option ℕ) (ps : List Posting) → ((p : Posting) → p ∈ ps → 0 < length p.positions)
    → postings_size previous ps ≤ 15 * length (positions_in ps)
unfolding postings_size
postings_take previous [] some_each = omega arith
postings_take previous (p ∷ ps) some_each =
    omega (
      arith,
      some_each p (inl refl),
      posting_takes previous p,
      postings_take (Some p.doc) ps (λ q m. some_each q (inr m)),
      length-append p.positions (positions_in ps),
    )

abbrev positions_of_all : List Term → ℕ
positions_of_all [] = 0
positions_of_all (t ∷ ts) = length (positions_in t.postings) + positions_of_all ts

terms_take : (ts : List Term) → ((t : Term) → t ∈ ts → (p : Posting) → p ∈ t.postings → 0 < length p.positions)
    → terms_size ts ≤ 32 * length ts + length (name_bytes ts) + 15 * positions_of_all ts
unfolding terms_size name_bytes
terms_take [] some_each = omega arith
terms_take (t ∷ ts) some_each =
    omega (
      arith,
      postings_take None t.postings (some_each t (inl refl)),
      terms_take ts (λ u m. some_each u (inr m)),
      length-append t.name (joined (map (λ u. u.name) ts)),
    )

-- ---- a hit is of one sound

abbrev from_on : ℕ → Hit → Bool
from_on s h = leb s h.sound

abbrev with_first : Bool → Hit → List Hit → List Hit
with_first t h later = cond t (h ∷ later) later

-- the hits of a sound, and those of the sounds behind it
split : (s : ℕ) (hits : List Hit)
    → length (kept (of_sound s) hits) + length (kept (from_on (suc s)) hits) ≤ length (kept (from_on s) hits)
unfolding kept
split s [] = omega arith
split s (h ∷ hs) = step (eqb h.sound s) (leb (suc s) h.sound) (leb s h.sound) refl refl refl (split s hs)
  where
    step : (a b c : Bool) → eqb h.sound s ≡ a → leb (suc s) h.sound ≡ b → leb s h.sound ≡ c
        → length (kept (of_sound s) hs) + length (kept (from_on (suc s)) hs) ≤ length (kept (from_on s) hs)
        → length (with_first a h (kept (of_sound s) hs)) + length (with_first b h (kept (from_on (suc s)) hs))
        ≤ length (with_first c h (kept (from_on s) hs))
    step true true c e f g k = absurd (omega (arith, eqb-true h.sound s e, leb-true (suc s) h.sound f))
    step true false true e f g k = omega arith
    step true false false e f g k = true_false (sym (le-leb s h.sound (omega (arith, eqb-true h.sound s e))) ∙ g)
    step false true true e f g k = omega arith
    step false true false e f g k = true_false (sym (le-leb s h.sound (omega (arith, leb-true (suc s) h.sound f))) ∙ g)
    step false false true e f g k = omega arith
    step false false false e f g k = omega arith

abbrev hits_left : ℕ → List Bar → ℕ
hits_left s [] = 0
hits_left s (b ∷ bs) = length (kept (from_on s) b.hits) + hits_left s bs

hits_fewer : (s : ℕ) (bars : List Bar) → hits_left s bars ≤ hits_in_all bars
hits_fewer s [] = omega arith
hits_fewer s (b ∷ bs) = omega (arith, kept_fewer (from_on s) b.hits, hits_fewer s bs)

positions_split : (s : ℕ) (bars : List Bar) → length (positions_in (postings_of s bars)) + hits_left (suc s) bars ≤ hits_left s bars
unfolding postings_of kept steps_of
positions_split s [] = omega arith
positions_split s (b ∷ bs) =
    step (has_steps (posting b.id (steps_of s b.hits))) (positions_split s bs)
    (omega (arith, split s b.hits, length-map (kept (of_sound s) b.hits) (λ h. h.step)))
  where
    step : (t : Bool) → length (positions_in (postings_of s bs)) + hits_left (suc s) bs ≤ hits_left s bs
        → length (steps_of s b.hits) + length (kept (from_on (suc s)) b.hits) ≤ length (kept (from_on s) b.hits)
        → length (positions_in (cond t (posting b.id (steps_of s b.hits) ∷ postings_of s bs) (postings_of s bs)))
        + (length (kept (from_on (suc s)) b.hits) + hits_left (suc s) bs)
        ≤ length (kept (from_on s) b.hits) + hits_left s bs
    step true h k = omega (arith, length-append (steps_of s b.hits) (positions_in (postings_of s bs)))
    step false h k = omega arith

terms_split : (s : ℕ) (ns : List (List ℕ)) (bars : List Bar) → positions_of_all (terms_of s ns bars) ≤ hits_left s bars
unfolding terms_of
terms_split s [] bars = omega arith
terms_split s (n ∷ ns) bars = step (ltb 0 (length (postings_of s bars))) (terms_split (suc s) ns bars)
  where
    step : (t : Bool) → positions_of_all (terms_of (suc s) ns bars) ≤ hits_left (suc s) bars
        → positions_of_all (cond t (term n (postings_of s bars) ∷ terms_of (suc s) ns bars) (terms_of (suc s) ns bars)) ≤ hits_left s bars
    step true h = omega (arith, positions_split s bars)
    step false h = omega (arith, positions_split s bars)

-- ---- a pad

some_positions : (ns : List (List ℕ)) (bars : List Bar) (t : Term) → t ∈ terms_of 0 ns bars → (p : Posting) → p ∈ t.postings
    → 0 < length p.positions
some_positions ns bars t m p k =
    let o = terms_gives 0 ns bars t m in
    (postings_gives (0 + o.place) bars p (subst (λ ps. p ∈ ps) o.postings_are k)).3

pub pad_takes : (pad text ends : List ℕ) → Whole pad → NamesShaped text ends → segment_size (map_lists pad text ends) ≤ most_bytes text
unfolding given_of
pad_takes pad text ends w n =
    let ns = names 0 ends text in
    let is = (whole_exactly pad).1 w in
    let few = terms_few pad is text ends n.small n.number ((shape_is text ends).1 n.shape) in
    let ts = pad_terms pad text ends in
    rw (given_back (given_of ns (held pad)))
    (omega (
      arith,
      documents_take None (documents_of (held pad)),
      length-map (held pad) (λ b. document b.id b.len),
      bars_few pad is,
      terms_take ts (some_positions ns (held pad)),
      few.terms,
      few.name_size,
      terms_split 0 ns (held pad),
      hits_fewer 0 (held pad),
      w.total,
      w.hits,
    ))

pub always_enough : AlwaysEnough
always_enough pad text ends room bytes e =
    let so = written_gives pad text ends room e in
    let l = map_lists pad text ends in
    omega (
      arith,
      ap length (accepted_is l room so.written),
      segment_length l,
      pad_takes pad text ends so.whole so.shaped,
    )
