-- What is held of the names taken, whatever it means that a name was found: `R n f` says that f is what was found for the name n.
-- Assumes nothing.
use Rattle.std.specs.Prelude.{None, Option, Some}
use mathlib.Core.Path.{◌≡◌, refl, sym, ap, ◌∙◌}
use mathlib.Core.Bool.{Bool, true, false}
use mathlib.Core.List.{List, [], ◌∷◌, ◌++◌, append-nil, append_assoc}
use mathlib.Core.Logic.{◌⊎◌, inl, inr, ◌↔◌}
use Prim.Native.Nat.{ℕ, ◌+◌, ◌≤◌, ◌<◌}
use native.Mathlib.Numerals.{add-one}
use native.Mathlib.Omega.{arith}
use lib.Dec.{eqb}
use lib.ListN.{length, get_or, set, take, length-append}
use lib.Seq.{get_or-set_same, get_or-set_other, take-suc-set}
use borrow.Author.Tests.{eqb-true, eqb-false}
use Rattle.common.proofs.Loops.{true_false}
use Rattle.read_terms.specs.declared.find.TermList.{TermList}
use Rattle.segment.specs.Names.{same}
use Rattle.ask_names.specs.Steps.{no_list, no_slots, counted_in, with_found, resolved, Founds, none_left, one_more}
use Rattle.common.specs.Elements.{◌∈◌}
use Rattle.ask_names.specs.declared.slots.Names.{Names}
use Rattle.rules.specs.Words.{mentions}
use Rattle.rules.specs.Different.{different}
use Rattle.segment.proofs.Strings.{apart}
use Rattle.common.proofs.Kept.{kept_none}
use Rattle.common.proofs.Membership.{place_of}
use Rattle.common.proofs.Elements.{append_left, append_right}
use Rattle.rules.proofs.Different.{in_or_out, different_new, different_again, mentions_again, mentions_other}
use Rattle.ask_names.proofs.SlotTurns.{slot_range, slot_finds, slot_skips}
use Rattle.ask_names.proofs.SlotsHold.{slot_in, SlotsSound, sound_none, placed_sound, sound_with, zeros}
use Rattle.common.proofs.OneMore.{equal_or_not, in_more, each_more, each_set}

-- a name has one entry and another name another; no name is both found and absent
pub record ToldApart (R : List ℕ → Option TermList → Type 0) : Type 0 where
  pub alike : (a b : List ℕ) (l k : TermList) → R a (Some l) → R b (Some k) → (a ≡ b) ↔ (l.entry ≡ k.entry)
  pub absent : (a : List ℕ) (l : TermList) → R a (Some l) → R a None → ⊥

-- the lists of those names that have one, in turn
pub data TermTotals (R : List ℕ → Option TermList → Type 0) : List (List ℕ) → List TermList → Type 0 where
  no_more : TermTotals R [] []
  list_next : {n : List ℕ} {l : TermList} {ns : List (List ℕ)} {ls : List TermList}
      → R n (Some l) → TermTotals R ns ls → TermTotals R (n ∷ ns) (l ∷ ls)
  absent_next : {n : List ℕ} {ns : List (List ℕ)} {ls : List TermList} → R n None → TermTotals R ns ls → TermTotals R (n ∷ ns) ls

-- the list of term k
abbrev pub list_at : Names → ℕ → TermList
list_at s k = get_or s.list k no_list

pub record Holding (R : List ℕ → Option TermList → Type 0) (ns : List (List ℕ)) (s : Names) : Type 0 where
  pub sound : SlotsSound s
  pub taken : s.taken ≡ length ns
  pub known : (n : List ℕ) → n ∈ ns → (f : Option TermList) × R n f
  pub absent : (s.absent ≡ true) ↔ ((n : List ℕ) × (n ∈ ns) × R n None)
  -- each term is some name's own, and no two are of one entry
  pub owned : (k : ℕ) → k < s.different → (n : List ℕ) × (n ∈ ns) × R n (Some (list_at s k))
  pub once : (j k : ℕ) → j < s.different → k < s.different → (list_at s j).entry ≡ (list_at s k).entry → j ≡ k
  -- the number of a name that was found is that of the term with its entry
  pub numbered : (i : ℕ) → i < length ns → (l : TermList) → R (get_or ns i []) (Some l)
      → (get_or s.slot i 0 < s.different) × ((list_at s (get_or s.slot i 0)).entry ≡ l.entry)
  pub counted : (k : ℕ) → k < s.different → (n : List ℕ) (l : TermList) → R n (Some l) → (list_at s k).entry ≡ l.entry
      → get_or s.wanted k 0 ≡ mentions n ns
  pub unnamed : (k : ℕ) → s.different ≤ k → get_or s.wanted k 0 ≡ 0
  -- the terms are in the order of first mention
  pub listed : TermTotals R (different ns) (take s.different s.list)

module _ {R : List ℕ → Option TermList → Type 0} where
  list_last : {ns : List (List ℕ)} {ls : List TermList} {n : List ℕ} {l : TermList} → TermTotals R ns ls → R n (Some l)
      → TermTotals R (ns ++ (n ∷ [])) (ls ++ (l ∷ []))
  list_last no_more r = list_next r no_more
  list_last (list_next q w) r = list_next q (list_last w r)
  list_last (absent_next q w) r = absent_next q (list_last w r)

  absent_last : {ns : List (List ℕ)} {ls : List TermList} {n : List ℕ} → TermTotals R ns ls → R n None → TermTotals R (ns ++ (n ∷ [])) ls
  absent_last no_more r = absent_next r no_more
  absent_last (list_next q w) r = list_next q (absent_last w r)
  absent_last (absent_next q w) r = absent_next q (absent_last w r)

  pub holding_none : Holding R [] no_slots
  unfolding different
  holding_none = record {
    sound = sound_none;
    taken = refl;
    known = λ n m. absurd m;
    absent = (λ e. true_false (sym e), λ (n, m, r). absurd m);
    owned = λ k h. absurd (omega arith);
    once = λ j k h. absurd (omega arith);
    numbered = λ i h. absurd (omega arith);
    counted = λ k h. absurd (omega arith);
    unnamed = λ k h. zeros 128 k;
    listed = no_more;
  }

-- ---- one name more

-- term k counted once more
abbrev recount : Names → ℕ → List ℕ
recount s k = set s.wanted k (get_or s.wanted k 0 + 1)

recount_other : (s : Names) (k j : ℕ) → (j ≡ k → ⊥) → get_or (recount s k) j 0 ≡ get_or s.wanted j 0
recount_other s k j not = get_or-set_other s.wanted k j (get_or s.wanted k 0 + 1) 0 not

recount_same : (s : Names) (k : ℕ) → k < length s.wanted → get_or (recount s k) k 0 ≡ get_or s.wanted k 0 + 1
recount_same s k h = get_or-set_same s.wanted k (get_or s.wanted k 0 + 1) 0 h

mentions_none : (n : List ℕ) (ns : List (List ℕ)) → (n ∈ ns → ⊥) → mentions n ns ≡ 0
unfolding mentions
mentions_none n ns out = rw (kept_none (same n) ns (λ m a. apart n m (λ e. out (rw e a))))

module _ {R : List ℕ → Option TermList → Type 0} (told : ToldApart R) (ns : List (List ℕ)) (s : Names) (h : Holding R ns s)
    (n : List ℕ) where
  length_more : length (ns ++ (n ∷ [])) ≡ length ns + 1
  length_more = length-append ns (n ∷ [])

  owned_more : (k : ℕ) → k < s.different → (m : List ℕ) × (m ∈ (ns ++ (n ∷ []))) × R m (Some (list_at s k))
  owned_more k g = let (m, a, q) = h.owned k g in (m, append_left ns (n ∷ []) m a, q)

  known_more : {f : Option TermList} → R n f → (m : List ℕ) → m ∈ (ns ++ (n ∷ [])) → (f : Option TermList) × R m f
  known_more {f} r m a = step (in_more ns n m a)
    where
      step : (m ∈ ns) ⊎ (m ≡ n) → (f : Option TermList) × R m f
      step (inl b) = h.known m b
      step (inr e) = (f, rw e r)

  holding_absent : R n None → Holding R (ns ++ (n ∷ [])) (with_found s None)
  holding_absent r = record {
    sound = sound_with s h.sound None;
    taken = omega (arith, h.taken, length_more);
    known = known_more r;
    absent = (λ e. (n, append_right ns (n ∷ []) n (inl refl), r), λ a. refl);
    owned = owned_more;
    once = h.once;
    numbered =
        each_more [] ns n
        (λ i m. (l : TermList) → R m (Some l) → (get_or s.slot i 0 < s.different)
        × ((list_at s (get_or s.slot i 0)).entry ≡ l.entry))
        h.numbered (λ l q. absurd (told.absent n l q r));
    counted = λ k g m l q e.
        h.counted k g m l q e ∙ sym (mentions_other n m ns (apart m n (λ is. told.absent m l q (rw is r))));
    unnamed = h.unnamed;
    listed = step (in_or_out n ns);
  }
    where
      step : (n ∈ ns) ⊎ (n ∈ ns → ⊥) → TermTotals R (different (ns ++ (n ∷ []))) (take s.different s.list)
      step (inl a) = rw (different_again n ns a) h.listed
      step (inr out) = rw (different_new n ns out) (absent_last h.listed r)

  module _ (l : TermList) (r : R n (Some l)) (room : s.taken < 128) where
    absent_kept : (s.absent ≡ true) ↔ ((m : List ℕ) × (m ∈ (ns ++ (n ∷ []))) × R m None)
    absent_kept = (
      λ e. let (m, a, q) = h.absent.0 e in (m, append_left ns (n ∷ []) m a, q),
      λ (m, a, q). step m q (in_more ns n m a),
    )
      where
        step : (m : List ℕ) → R m None → (m ∈ ns) ⊎ (m ≡ n) → s.absent ≡ true
        step m q (inl a) = h.absent.1 (m, a, q)
        step m q (inr e) = absurd (told.absent n l r (rw e at q))

    -- the numbers, where the new name's is k
    numbers_more : (k : ℕ) (Q : ℕ → TermList → Type 0)
        → ((i : ℕ) → i < length ns → (x : TermList) → R (get_or ns i []) (Some x) → Q (get_or s.slot i 0) x)
        → ((x : TermList) → R n (Some x) → Q k x)
        → (i : ℕ) → i < length (ns ++ (n ∷ [])) → (x : TermList) → R (get_or (ns ++ (n ∷ [])) i []) (Some x)
        → Q (get_or (set s.slot s.taken k) i 0) x
    numbers_more k Q old new =
        each_more [] ns n (λ i m. (x : TermList) → R m (Some x) → Q (get_or (set s.slot s.taken k) i 0) x)
        (λ i g x q. rw (get_or-set_other s.slot s.taken i k 0 (λ e. omega (arith, h.taken))) (old i g x q))
        (λ x q. rw (← h.taken, get_or-set_same s.slot s.taken k 0 (omega (arith, h.sound.slot_long))) (new x q))

    -- another name's count stays
    counted_other : (j : ℕ) → j < s.different → (m : List ℕ) (x : TermList) → R m (Some x) → (list_at s j).entry ≡ x.entry
        → ((list_at s j).entry ≡ l.entry → ⊥) → get_or s.wanted j 0 ≡ mentions m (ns ++ (n ∷ []))
    counted_other j b m x q is not =
        h.counted j b m x q is ∙ sym (mentions_other n m ns (apart m n (λ same. not (is ∙ (told.alike m n x l q r).0 same))))

    -- ---- a term that was named before

    module _ (k : ℕ) (g : k < s.different) (e : (list_at s k).entry ≡ l.entry) where
      named_before : n ∈ ns
      named_before = let (m, a, q) = h.owned k g in rw ((told.alike m n (list_at s k) l q r).1 e) at a

      counted_again : (j : ℕ) → j < s.different → (m : List ℕ) (x : TermList) → R m (Some x) → (list_at s j).entry ≡ x.entry
          → get_or (recount s k) j 0 ≡ mentions m (ns ++ (n ∷ []))
      counted_again j b m x q is = step (equal_or_not j k)
        where
          step : (j ≡ k) ⊎ (j ≡ k → ⊥) → get_or (recount s k) j 0 ≡ mentions m (ns ++ (n ∷ []))
          step (inl here) =
              rw (
                (told.alike m n x l q r).1 (sym is ∙ ap (λ i. (list_at s i).entry) here ∙ e),
                here,
                recount_same s k (omega (arith, h.sound.wanted_long, h.sound.few)),
                mentions_again n ns,
                h.counted k g n l r e,
              )
          step (inr not) =
              recount_other s k j not
              ∙ counted_other j b m x q is (λ same. not (h.once j k b g (same ∙ sym e)))

      holding_again : Holding R (ns ++ (n ∷ [])) (counted_in false s k l)
      holding_again = record {
        sound = placed_sound s h.sound false k l;
        taken = omega (arith, h.taken, length_more);
        known = known_more r;
        absent = absent_kept;
        owned = owned_more;
        once = h.once;
        numbered =
            numbers_more k (λ i x. (i < s.different) × ((list_at s i).entry ≡ x.entry)) h.numbered
            (λ x q. (g, e ∙ (told.alike n n l x r q).0 refl));
        counted = counted_again;
        unnamed = λ j b. recount_other s k j (λ is. omega arith) ∙ h.unnamed j b;
        listed = rw (different_again n ns named_before) h.listed;
      }

    -- ---- a new one

    module _ (fresh : (j : ℕ) → j < s.different → (list_at s j).entry ≡ l.entry → ⊥) where
      named_newly : n ∈ ns → ⊥
      named_newly a =
          let (i, g, is) = place_of [] ns n a in
          let (b, e) = h.numbered i g l (rw is r) in
          fresh (get_or s.slot i 0) b e

      -- the next number is an index of the arrays
      fits : (size : ℕ) → size ≡ 128 → s.different < size
      fits size e = omega (arith, h.sound.few)

      -- what holds of each term before and of the new one
      each_term : (P : ℕ → TermList → Type 0) → ((j : ℕ) → j < s.different → P j (list_at s j)) → P s.different l
          → (j : ℕ) → j < s.different + 1 → P j (get_or (set s.list s.different l) j no_list)
      each_term P = each_set no_list s.list s.different l P (fits _ h.sound.list_long)

      holding_new : Holding R (ns ++ (n ∷ [])) (counted_in true s s.different l)
      holding_new = record {
        sound = placed_sound s h.sound true s.different l;
        taken = omega (arith, h.taken, length_more);
        known = known_more r;
        absent = absent_kept;
        owned =
            each_term (λ j x. (m : List ℕ) × (m ∈ (ns ++ (n ∷ []))) × R m (Some x)) owned_more
            (n, append_right ns (n ∷ []) n (inl refl), r);
        once = λ i j b c.
            each_term (λ i x. (j : ℕ) → j < s.different + 1 → x.entry ≡ (get_or (set s.list s.different l) j no_list).entry → i ≡ j)
            (λ i b. each_term (λ j x. (list_at s i).entry ≡ x.entry → i ≡ j) (λ j c. h.once i j b c) (λ e. absurd (fresh i b e)))
            (each_term (λ j x. l.entry ≡ x.entry → s.different ≡ j) (λ j c e. absurd (fresh j c (sym e))) (λ e. refl))
            i b j c;
        numbered =
            numbers_more s.different
            (λ i x. (i < s.different + 1) × ((get_or (set s.list s.different l) i no_list).entry ≡ x.entry))
            (λ i g x q.
            let (b, e) = h.numbered i g x q in
            (omega arith, rw (get_or-set_other s.list s.different (get_or s.slot i 0) l no_list (λ is. omega arith)) e))
            (λ x q. (
              omega arith,
              rw (get_or-set_same s.list s.different l no_list (fits _ h.sound.list_long))
                  ((told.alike n n l x r q).0 refl),
            ));
        counted =
            each_term
            (λ j y. (m : List ℕ) (x : TermList) → R m (Some x) → y.entry ≡ x.entry
            → get_or (recount s s.different) j 0 ≡ mentions m (ns ++ (n ∷ [])))
            (λ j b m x q e. recount_other s s.different j (λ is. omega arith) ∙ counted_other j b m x q e (fresh j b))
            (λ m x q e.
            rw (
              (told.alike m n x l q r).1 (sym e),
              recount_same s s.different (fits _ h.sound.wanted_long),
              mentions_again n ns,
              mentions_none n ns named_newly,
              h.unnamed s.different (omega arith),
            ));
        unnamed = λ j b. recount_other s s.different j (λ is. omega arith) ∙ h.unnamed j (omega arith);
        listed =
            rw (
              different_new n ns named_newly,
              add-one s.different,
              take-suc-set s.list s.different l (fits _ h.sound.list_long),
            )
            (list_last h.listed r);
      }

  pub holding_with : s.taken < 128 → (f : Option TermList) → R n f → Holding R (ns ++ (n ∷ [])) (with_found s f)
  holding_with room None r = holding_absent r
  holding_with room (Some l) r = step (eqb (slot_in s l) s.different) refl
    where
      step : (t : Bool) → eqb (slot_in s l) s.different ≡ t → Holding R (ns ++ (n ∷ [])) (counted_in t s (slot_in s l) l)
      step true e =
          let is = eqb-true (slot_in s l) s.different e in
          rw is
          (holding_new l r room
          (λ j b same. slot_skips s.different 0 s.list l.entry j (omega arith) (omega arith) same))
      step false e =
          let b : slot_in s l < s.different =
          omega (arith, slot_range s.different 0 s.list l.entry, eqb-false (slot_in s l) s.different e) in
          holding_again l r room (slot_in s l) b
          (slot_finds s.different 0 s.list l.entry (omega arith))

-- ---- all names

module _ {R : List ℕ → Option TermList → Type 0} (told : ToldApart R) where
  holding_more : (ms : List (List ℕ)) (s : Names) → Holding R ms s → {ns : List (List ℕ)} {fs : List (Option TermList)} → Founds R ns fs
      → length ms + length ns ≤ 128 → Holding R (ms ++ ns) (resolved s fs)
  unfolding resolved
  holding_more ms s h none_left few = rw append-nil h
  holding_more ms s h (one_more {n = n} {f = f} {ns = ns} r w) few =
      rw (append_assoc ms (n ∷ []) ns) at
      (holding_more (ms ++ (n ∷ [])) (with_found s f) (holding_with told ms s h n (omega (arith, h.taken)) f r) w
      (omega (arith, length-append ms (n ∷ []))))

  pub holding_all : {ns : List (List ℕ)} {fs : List (Option TermList)} → Founds R ns fs → length ns ≤ 128
      → Holding R ns (resolved no_slots fs)
  holding_all w few = holding_more [] no_slots holding_none w (omega arith)
