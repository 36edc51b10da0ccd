-- The leap to the next document that every list holds: what a turn keeps, and what the leap tells of the lists.
-- Assumes nothing.
use Prim.Native.Nat.{ℕ, zero, suc, ◌+◌, ◌≤◌, ◌<◌}
use mathlib.Core.Path.{◌≡◌, refl, sym, ap, ◌∙◌}
use mathlib.Core.Bool.{Bool, true, false, cond}
use mathlib.Core.List.{List, [], ◌∷◌, map}
use mathlib.Core.Logic.{⊎_elim}
use native.Mathlib.Omega.{arith}
use lib.Dec.{ltb}
use borrow.Author.Count.{below_more}
use borrow.Author.Tests.{ltb-true, eq-eqb, ne_eqb}
use Rattle.read_cursors.specs.Held.{seek_in, PostingAt, posting_of}
use Rattle.segment.specs.Records.{Posting}
use Rattle.read_cursors.specs.declared.postings.Postings.{Postings}
use Rattle.calls.specs.Lookups.{positions_of}
use Rattle.read_cursors.specs.Steps.{postings_at, postings_from}
use Rattle.read_cursors.proofs.Rising.{Rises, from_rise_postings}
use Rattle.ask_match.proofs.Places.{each_changed}
use Rattle.common.proofs.Loops.{lt_or_ge}
use Rattle.common.specs.Elements.{Rising}
use Rattle.calls.proofs.Posted.{docs}
use Rattle.ask_walk.specs.Steps.{SoughtList, positions_under, list_of, Lacked, LeaptTo}

-- ---- a document's positions from a cursor on

-- passing lower documents loses none
seek_positions : (target d : ℕ) (l : List PostingAt) → target ≤ d
    → positions_of (map posting_of (seek_in (λ (s : PostingAt). s.doc) target l)) d ≡ positions_of (map posting_of l) d
unfolding positions_of
seek_positions target d [] h = refl
seek_positions target d (x ∷ l) h = go (ltb x.doc target) refl (seek_positions target d l h)
  where
    go : (t : Bool) → ltb x.doc target ≡ t
        → positions_of (map posting_of (seek_in (λ (s : PostingAt). s.doc) target l)) d ≡ positions_of (map posting_of l) d
        → positions_of (map posting_of (cond t (seek_in (λ (s : PostingAt). s.doc) target l) (x ∷ l))) d
        ≡ positions_of (map posting_of (x ∷ l)) d
    go true e ih = rw (ne_eqb x.doc d (λ z. omega (arith, ltb-true x.doc target e))) ih
    go false e ih = refl

-- a document below the first has none
low_positions : (low d : ℕ) (l : List PostingAt) → Rises (λ (s : PostingAt). s.doc) low l → d < low
    → positions_of (map posting_of l) d ≡ []
unfolding positions_of
low_positions low d [] u h = refl
low_positions low d (x ∷ l) (k, u) h =
    rw (ne_eqb x.doc d (λ z. omega arith)) (low_positions (suc x.doc) d l u (omega arith))

pub rising_docs : (low : ℕ) (l : List PostingAt) → Rises (λ (s : PostingAt). s.doc) low l → Rising (docs (map posting_of l))
rising_docs low [] u = tt
rising_docs low (x ∷ []) u = tt
rising_docs low (x ∷ (y ∷ l)) (h, u) = (u.0, rising_docs (suc x.doc) (y ∷ l) u)

-- the postings from a cursor on
abbrev ahead : List ℕ → Postings → List Posting
ahead bytes c = map posting_of (postings_from bytes c)

module _ (bytes : List ℕ) (c : Postings) where
  ended : (d : ℕ) → c.remaining ≡ 0 → positions_of (ahead bytes c) d ≡ []
  unfolding positions_of postings_at
  ended d e = rw e

  rises : Rises (λ (s : PostingAt). s.doc) c.doc.0 (postings_from bytes c)
  rises = from_rise_postings bytes c.remaining c.at c.count c.doc.0

  pub rising : Rising (docs (map posting_of (postings_from bytes c)))
  rising = rising_docs c.doc.0 (postings_from bytes c) rises

  below : (d : ℕ) → d < c.doc.0 → positions_of (ahead bytes c) d ≡ []
  below d h = low_positions c.doc.0 d (postings_from bytes c) rises h

  at_front : (left d : ℕ) → 0 < left → c.doc.0 ≡ d
      → positions_of (map posting_of (postings_at left c.at c.count c.doc.0 bytes)) d ≡ positions_under bytes c
  unfolding positions_of postings_at
  at_front zero d h e = absurd (omega arith)
  at_front (suc n) d h e = rw (eq-eqb c.doc.0 d e)

-- ---- the cursors

-- from doc on the cursors show what the lists have; those before k are at doc
pub record Cursors (bytes : List ℕ) (heads at : ℕ → Postings) (doc k : ℕ) : Type 0 where
  pub same : (j d : ℕ) → doc ≤ d → positions_of (list_of bytes at j) d ≡ positions_of (list_of bytes heads j) d
  pub here : (j : ℕ) → j < k → positions_of (list_of bytes heads j) doc ≡ positions_under bytes (at j)

pub cursors_start : (bytes : List ℕ) (heads : ℕ → Postings) (doc : ℕ) → Cursors bytes heads heads doc 0
cursors_start bytes heads doc = record { same = λ j d h. refl; here = λ j h. absurd (omega arith) }

module _ {bytes : List ℕ} {heads at : ℕ → Postings} {doc k : ℕ} (w : Cursors bytes heads at doc k)
    {new : ℕ → Postings} {r : Postings} (so : SoughtList bytes doc k at new r) where
  shows : (d : ℕ) → doc ≤ d → positions_of (ahead bytes r) d ≡ positions_of (list_of bytes heads k) d
  shows d h =
      ap (λ (l : List PostingAt). positions_of (map posting_of l) d) so.sought.holds
      ∙ seek_positions doc d (postings_from bytes (at k)) h ∙ w.same k d h

  gone : r.remaining ≡ 0 → (d : ℕ) → doc ≤ d → positions_of (list_of bytes heads k) d ≡ []
  gone e d h = sym (shows d h) ∙ ended bytes r d e

  passed : (d : ℕ) → doc ≤ d → d < r.doc.0 → positions_of (list_of bytes heads k) d ≡ []
  passed d h l = sym (shows d h) ∙ below bytes r d l

  still : (j d : ℕ) → doc ≤ d → positions_of (list_of bytes new j) d ≡ positions_of (list_of bytes heads j) d
  still j d h =
      each_changed (λ i c. positions_of (ahead bytes c) d ≡ positions_of (list_of bytes heads i) d) so.stored (shows d h) j
      (w.same j d h)

  cursors_ok : 0 < r.remaining → r.doc.0 ≡ doc → Cursors bytes heads new doc (k + 1)
  cursors_ok some e = record {
    same = still;
    here = below_more (λ j. positions_of (list_of bytes heads j) doc ≡ positions_under bytes (new j)) k
        (λ j h. rw (so.stored.other j (λ z. omega arith)) (w.here j h))
        (rw so.stored.here (sym (shows doc (omega arith)) ∙ at_front bytes r r.remaining doc some e));
  }

  cursors_on : {more : ℕ} → doc ≤ more → Cursors bytes heads new more 0
  cursors_on up = record { same = λ j d h. still j d (omega arith); here = λ j h. absurd (omega arith) }

-- ---- the leap

-- between from and doc no document is in all m lists
pub record Leaping (bytes : List ℕ) (m from : ℕ) (old at : ℕ → Postings) (doc k : ℕ) : Type 0 where
  pub cursors : Cursors bytes old at doc k
  pub reached : from ≤ doc
  pub skipped : (e : ℕ) → from ≤ e → e < doc → Lacked bytes m old e

pub leap_start : (bytes : List ℕ) (m from : ℕ) (old : ℕ → Postings) → Leaping bytes m from old old from 0
leap_start bytes m from old = record {
  cursors = cursors_start bytes old from;
  reached = omega arith;
  skipped = λ e h l. absurd (omega arith);
}

module _ {bytes : List ℕ} {m from : ℕ} {old at : ℕ → Postings} {doc k : ℕ} (s : Leaping bytes m from old at doc k) where
  pub leap_done : m ≤ k → LeaptTo bytes m from old at doc
  leap_done all = record {
    reached = s.reached;
    skipped = s.skipped;
    here = λ j h. s.cursors.here j (omega arith);
    same = s.cursors.same;
  }

  module _ {new : ℕ → Postings} {r : Postings} (so : SoughtList bytes doc k at new r) where
    pub leap_ok : 0 < r.remaining → r.doc.0 ≡ doc → Leaping bytes m from old new doc (k + 1)
    leap_ok some e = record { cursors = cursors_ok s.cursors so some e; reached = s.reached; skipped = s.skipped }

    -- from doc on, where this list has none, one of the m lists has none
    lacked_from : k < m → (e : ℕ) → from ≤ e → (doc ≤ e → positions_of (list_of bytes old k) e ≡ []) → Lacked bytes m old e
    lacked_from h e l none =
        ⊎_elim (λ below. s.skipped e l below) (λ up. record { list = k; among = h; none = none up }) (lt_or_ge e doc)

    pub leap_end : k < m → r.remaining ≡ 0 → (e : ℕ) → from ≤ e → Lacked bytes m old e
    leap_end h none e l = lacked_from h e l (gone s.cursors so none e)

    pub leap_over : k < m → doc ≤ r.doc.0 → Leaping bytes m from old new r.doc.0 0
    leap_over h up = record {
      cursors = cursors_on s.cursors so up;
      reached = omega (arith, s.reached);
      skipped = λ e l below_it. lacked_from h e l (λ at_least_lem. passed s.cursors so e at_least_lem below_it);
    }

-- ---- one leap after the other

module _ {bytes : List ℕ} {m from : ℕ} {heads at : ℕ → Postings} (w : Cursors bytes heads at from 0) where
  lacked_since : {e : ℕ} → from ≤ e → Lacked bytes m at e → Lacked bytes m heads e
  lacked_since {e} h l = record { list = l.list; among = l.among; none = sym (w.same l.list e h) ∙ l.none }

  -- what a leap tells of the lists from the cursors on is so of the whole lists
  pub leapt_since : {new : ℕ → Postings} {d : ℕ} → LeaptTo bytes m from at new d → LeaptTo bytes m from heads new d
  leapt_since {d = d} l = record {
    reached = l.reached;
    skipped = λ x h u. lacked_since h (l.skipped x h u);
    here = λ j h. sym (w.same j d l.reached) ∙ l.here j h;
    same = λ j x h. l.same j x h ∙ w.same j x (omega (arith, l.reached));
  }

  pub ended_since : ((d : ℕ) → from ≤ d → Lacked bytes m at d) → (d : ℕ) → from ≤ d → Lacked bytes m heads d
  ended_since none d h = lacked_since h (none d h)

pub leapt_past : {bytes : List ℕ} {m from : ℕ} {heads new : ℕ → Postings} {d : ℕ} → LeaptTo bytes m from heads new d
    → Cursors bytes heads new (d + 1) 0
leapt_past l = record { same = λ j e h. l.same j e (omega arith); here = λ j h. absurd (omega arith) }
