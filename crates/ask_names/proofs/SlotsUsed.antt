-- What the slots of the names taken are good for: numbers of the names, each name's own list, and the lists decoded in turn.
-- Assumes nothing.
use Rattle.std.specs.Prelude.{None, Ok, Option, Some}
use mathlib.Core.Path.{◌≡◌, refl, sym, ap, ◌∙◌}
use mathlib.Core.Bool.{false}
use mathlib.Core.List.{List, []}
use Prim.Native.Nat.{ℕ, ◌≤◌, ◌<◌}
use native.Mathlib.Omega.{arith}
use lib.ListN.{length, get_or, take}
use Rattle.common.proofs.Loops.{true_false}
use Rattle.read_terms.specs.declared.find.TermList.{TermList}
use Rattle.calls.specs.Lookups.{postings_of}
use Rattle.segment.specs.Records.{Document, Segment}
use Rattle.segment.specs.Postings.{decode}
use Rattle.read_terms.specs.Steps.{list_entry}
use Rattle.ask_names.specs.Steps.{InSlots, Numbered}
use Rattle.ask_names.specs.declared.slots.Names.{Names}
use Rattle.ask_names.specs.Lists.{decode_each}
use Rattle.common.specs.Elements.{◌∈◌}
use Rattle.rules.specs.Different.{different}
use Rattle.calls.specs.Questions.{decode_names}
use Rattle.common.proofs.Membership.{at_place, place_of}
use Rattle.calls.proofs.Decoding.{verdict, decodes_more}
use Rattle.ask_names.proofs.SlotsNamed.{ToldApart, TermTotals, no_more, list_next, absent_next, Holding, list_at}

module _ {R : List ℕ → Option TermList → Type 0} (told : ToldApart R) (ns : List (List ℕ)) (s : Names) (h : Holding R ns s) where
  -- the list under a name's number is one that was found for the name
  pub own_list : (i : ℕ) → i < length ns → (l : TermList) → R (get_or ns i []) (Some l)
      → R (get_or ns i []) (Some (list_at s (get_or s.slot i 0)))
  own_list i g l r =
      let (b, e) = h.numbered i g l r in
      let (m, a, q) = h.owned (get_or s.slot i 0) b in
      rw ((told.alike m (get_or ns i []) (list_at s (get_or s.slot i 0)) l q r).1 e) at q

  -- ---- where no name is absent

  module _ (all : s.absent ≡ false) where
    pub each_found : (n : List ℕ) → n ∈ ns → (l : TermList) × R n (Some l)
    each_found n a = let (f, r) = h.known n a in step f r
      where
        step : (f : Option TermList) → R n f → (l : TermList) × R n (Some l)
        step (Some l) r = (l, r)
        step None r = true_false (sym (h.absent.1 (n, a, r)) ∙ all)

    found_at : (i : ℕ) → i < s.taken → (l : TermList) × R (get_or ns i []) (Some l)
    found_at i g = each_found (get_or ns i []) (at_place [] ns i (omega (arith, h.taken)))

    pub slot_list : (i : ℕ) → i < s.taken → R (get_or ns i []) (Some (list_at s (get_or s.slot i 0)))
    slot_list i g = let (l, r) = found_at i g in own_list i (omega (arith, h.taken)) l r

    pub slot_below : (i : ℕ) → i < s.taken → get_or s.slot i 0 < s.different
    slot_below i g = let (l, r) = found_at i g in (h.numbered i (omega (arith, h.taken)) l r).0

    pub in_slots : length ns ≤ 128 → InSlots s.taken s.slot
    in_slots few = record {
      few = omega (arith, h.taken);
      long = h.sound.slot_long;
      inside = λ i g. omega (arith, slot_below i g, h.taken, h.sound.few);
    }

    pub numbers : Numbered s.taken s.slot s.different s.wanted ns
    numbers = record {
      taken = sym h.taken;
      below = slot_below;
      alike = λ i j a b.
          let t = told.alike (get_or ns i []) (get_or ns j []) (list_at s (get_or s.slot i 0)) (list_at s (get_or s.slot j 0))
          (slot_list i a) (slot_list j b) in
          (λ e. t.1 (ap (λ k. (list_at s k).entry) e), λ e. h.once _ _ (slot_below i a) (slot_below j b) (t.0 e));
      each = λ k g.
          let (m, a, q) = h.owned k g in
          let (i, b, is) = place_of [] ns m a in
          let (c, e) = h.numbered i b (list_at s k) (rw is q) in
          (i, omega (arith, h.taken), h.once _ _ c g e);
      counted = λ i g. h.counted (get_or s.slot i 0) (slot_below i g) (get_or ns i []) _ (slot_list i g) refl;
    }

-- ---- the lists decoded, one after the other

module _ {R : List ℕ → Option TermList → Type 0} (seg : Segment) (documents : List Document) (bytes : List ℕ)
    (has : (n : List ℕ) (l : TermList) → R n (Some l) → postings_of seg n ≡ decode documents (list_entry bytes l))
    (lacks : (n : List ℕ) → R n None → postings_of seg n ≡ Ok []) where
  listed_decode : {ns : List (List ℕ)} {ls : List TermList} → TermTotals R ns ls
      → decode_each documents bytes ls ≡ verdict (decode_names seg ns)
  unfolding decode_names decode_each
  listed_decode no_more = refl
  listed_decode (list_next {n = n} {l = l} {ns = ns} r w) = sym (decodes_more seg n ns ∙ rw (has n l r, sym (listed_decode w)))
  listed_decode (absent_next {n = n} {ns = ns} r w) = sym (decodes_more seg n ns ∙ rw (lacks n r) (sym (listed_decode w)))

  pub lists_decode : {ns : List (List ℕ)} (s : Names) → Holding R ns s
      → decode_each documents bytes (take s.different s.list) ≡ verdict (decode_names seg (different ns))
  lists_decode s h = listed_decode h.listed
