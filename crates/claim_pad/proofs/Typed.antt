-- Lists that the writer accepts hold what their types can, if ids, lengths and text do; those of a pad of 32-bit words do.
-- Assumes nothing.
use mathlib.Core.Path.{◌≡◌, refl, sym, subst}
use mathlib.Core.Bool.{true}
use mathlib.Core.List.{List, [], ◌∷◌, map}
use mathlib.Core.Logic.{inl, inr}
use Prim.Native.Nat.{ℕ, zero, suc, ◌+◌, ◌*◌, ◌^◌, ◌≤◌, ◌<◌}
use native.Mathlib.Nat.{zero-add}
use native.Mathlib.Omega.{arith}
use lib.Dec.{leb}
use lib.ListN.{length, drop, get_or}
use lib.Seq.{get_or-drop}
use Rattle.common.specs.Elements.{◌∈◌}
use Rattle.common.specs.Lists.{total, joined}
use Rattle.common.proofs.Elements.{map_from}
use Rattle.common.proofs.Loops.{and_right}
use Rattle.common.proofs.Membership.{map_gives, joined_gives, joined_from, at_place}
use Rattle.segment.specs.Records.{Document, Posting, Term}
use Rattle.segment.specs.Metadata.{document}
use Rattle.segment.specs.Texts.{ends_fit, names}
use Rattle.segment.proofs.Shapes.{shape_is}
use Rattle.calls.specs.Given.{Lists, given, laid_flat}
use Rattle.calls.specs.Acceptance.{PostingFine, ListsFine}
use Rattle.calls.proofs.Flat.{flat_again}
use Rattle.calls.proofs.Parts.{ends_last, names_joined}
use Rattle.roundtrip.specs.Claims.{Below, Typed}
use Rattle.roundtrip.proofs.ReadsBack.{member_below}
use Rattle.pad_map.specs.Bars.{Bar}
use Rattle.pad_map.specs.Acts.{terms_of, given_of}
use Rattle.pad_words.specs.Words.{bars_of, held}
use Rattle.pad_write.proofs.Bounds.{ids_are}
use Rattle.claim_pad.specs.Written.{NamesShaped, map_lists}
use Rattle.claim_pad.proofs.Listed.{terms_gives}

-- ---- by elements

each_below : (n : ℕ) → 0 < n → (xs : List ℕ) → ((x : ℕ) → x ∈ xs → x < n) → Below n xs
each_below n some [] h i = some
each_below n some (x ∷ xs) h zero = h x (inl refl)
each_below n some (x ∷ xs) h (suc i) = each_below n some xs (λ y m. h y (inr m)) i

-- ends are places of the text, and counts no more than their sum
ends_each : (from n : ℕ) (es : List ℕ) → ends_fit from es n ≡ true → (x : ℕ) → x ∈ es → x ≤ n
unfolding ends_fit
ends_each from n [] fit x m = absurd m
ends_each from n (e ∷ es) fit x (inl is) = omega (arith, ends_last e n es (and_right (leb from e) (ends_fit e es n) fit), is)
ends_each from n (e ∷ es) fit x (inr m) = ends_each e n es (and_right (leb from e) (ends_fit e es n) fit) x m

total_each : (cs : List ℕ) (x : ℕ) → x ∈ cs → x ≤ total cs
total_each [] x m = absurd m
total_each (c ∷ cs) x (inl e) = omega arith
total_each (c ∷ cs) x (inr m) = omega (arith, total_each cs x m)

-- ---- any lists that are accepted

module _ (l : Lists) (fine : ListsFine l) where
  abbrev postings : List Posting
  postings = joined (map (λ (t : Term). t.postings) (given l).terms)

  flat : laid_flat (given l) ≡ l
  flat = flat_again l fine.shape

  posting_known : (p : Posting) → p ∈ postings → PostingFine (given l).documents p
  posting_known p m =
      let (ps, k, j) = joined_gives (map (λ t. t.postings) (given l).terms) p m in
      let (t, there, e) = map_gives (λ t. t.postings) (given l).terms ps k in
      (fine.each t there).each p (subst (λ q. p ∈ q) e j)

  module _ (ids : Below (2 ^ 32) l.ids) (lengths : Below (2 ^ 32) l.lengths) (text : Below 256 l.text) where
    known_id : (p : Posting) → p ∈ postings → p.doc < 2 ^ 32
    unfolding laid_flat
    known_id p m =
        let f = posting_known p m in
        omega (
          arith,
          f.same,
          member_below (2 ^ 32) l.ids ids f.of.id
              (subst (λ (k : Lists). f.of.id ∈ k.ids) flat (map_from (λ d. d.id) (given l).documents f.of f.known)),
        )

    known_position : (p : Posting) → p ∈ postings → (x : ℕ) → x ∈ p.positions → x < 2 ^ 32
    unfolding laid_flat
    known_position p m x on =
        let f = posting_known p m in
        omega (
          arith,
          f.inside x on,
          member_below (2 ^ 32) l.lengths lengths f.of.len
              (subst (λ (k : Lists). f.of.len ∈ k.lengths) flat (map_from (λ d. d.len) (given l).documents f.of f.known)),
        )

    each_id : (x : ℕ) → x ∈ l.posting_ids → x < 2 ^ 32
    unfolding laid_flat
    each_id x m =
        let (p, there, e) = map_gives (λ p. p.doc) postings x (subst (λ (k : Lists). x ∈ k.posting_ids) (sym flat) m) in
        omega (arith, e, known_id p there)

    each_position : (x : ℕ) → x ∈ l.positions → x < 2 ^ 32
    unfolding laid_flat
    each_position x m =
        let (ps, k, on) = joined_gives (map (λ p. p.positions) postings) x (subst (λ (k : Lists). x ∈ k.positions) (sym flat) m) in
        let (p, there, e) = map_gives (λ p. p.positions) postings ps k in
        known_position p there x (subst (λ q. x ∈ q) e on)

    pub typed_lists : Typed l
    typed_lists =
        let small = fine.small in
        let shape = fine.shape in
        record {
          ids = ids;
          lengths = lengths;
          text = text;
          ends = each_below (2 ^ 32) (omega arith) l.ends (λ x m.
              omega (arith, small.text, ends_each 0 (length l.text) l.ends ((shape_is l.text l.ends).1 shape.text) x m));
          posting_counts = each_below (2 ^ 32) (omega arith) l.posting_counts (λ x m.
              omega (arith, small.posting_ids, shape.postings, total_each l.posting_counts x m));
          posting_ids = each_below (2 ^ 32) (omega arith) l.posting_ids each_id;
          position_counts = each_below (2 ^ 32) (omega arith) l.position_counts (λ x m.
              omega (arith, small.positions, shape.positions, total_each l.position_counts x m));
          positions = each_below (2 ^ 32) (omega arith) l.positions each_position;
        }

-- ---- the lists of a pad

bars_below : (n count : ℕ) (ws : List ℕ) → Below n ws → (b : Bar) → b ∈ bars_of count ws → (b.id < n) × (b.len < n)
unfolding bars_of
bars_below n zero ws low b m = absurd m
bars_below n (suc count) ws low b (inl e) = rw e (low 0, low 1)
bars_below n (suc count) ws low b (inr m) =
    let k = 3 + 2 * get_or ws 2 0 in
    bars_below n count (drop k ws) (λ i. rw (get_or-drop k ws i 0) (low (k + i))) b m

held_below : (n : ℕ) (pad : List ℕ) → Below n pad → (b : Bar) → b ∈ held pad → (b.id < n) × (b.len < n)
unfolding held
held_below n pad low = bars_below n (get_or pad 0 0) (drop 2 pad) (λ i. rw (get_or-drop 2 pad i 0) (low (2 + i)))

lens_are : (bars : List Bar) → map (λ (d : Document). d.len) (map (λ (b : Bar). document b.id b.len) bars) ≡ map (λ b. b.len) bars
lens_are [] = refl
lens_are (b ∷ bars) = rw (lens_are bars)

module _ (pad text ends : List ℕ) (low : Below (2 ^ 32) pad) (bytes : Below 256 text) (shaped : NamesShaped text ends) where
  name_byte : (t : Term) → t ∈ terms_of 0 (names 0 ends text) (held pad) → (x : ℕ) → x ∈ t.name → x < 256
  name_byte t m x on =
      let o = terms_gives 0 (names 0 ends text) (held pad) t m in
      let fit : ends_fit 0 ends (0 + length text) ≡ true = rw zero-add ((shape_is text ends).1 shaped.shape) in
      let there = at_place [] (names 0 ends text) o.place o.inside in
      member_below 256 text bytes x
      (subst (λ q. x ∈ q) (names_joined 0 ends text fit)
      (joined_from (names 0 ends text) _ x there (subst (λ q. x ∈ q) o.name_is on)))

  pub map_typed : ListsFine (map_lists pad text ends) → Typed (map_lists pad text ends)
  unfolding laid_flat given_of
  map_typed fine =
      let bars = held pad in
      let ts = terms_of 0 (names 0 ends text) bars in
      typed_lists (map_lists pad text ends) fine
      (rw (ids_are bars) (each_below (2 ^ 32) (omega arith) (map (λ b. b.id) bars) (λ x m.
      let (b, k, e) = map_gives (λ b. b.id) bars x m in omega (arith, e, (held_below (2 ^ 32) pad low b k).0))))
      (rw (lens_are bars) (each_below (2 ^ 32) (omega arith) (map (λ b. b.len) bars) (λ x m.
      let (b, k, e) = map_gives (λ b. b.len) bars x m in omega (arith, e, (held_below (2 ^ 32) pad low b k).1))))
      (each_below 256 (omega arith) (joined (map (λ t. t.name) ts)) (λ x m.
      let (n, k, on) = joined_gives (map (λ t. t.name) ts) x m in
      let (t, there, e) = map_gives (λ t. t.name) ts n k in
      name_byte t there x (subst (λ q. x ∈ q) e on)))
