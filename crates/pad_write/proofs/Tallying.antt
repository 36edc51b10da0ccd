-- The sounds checked and measured one by one: what is measured and what is still to come make the whole.
-- Assumes nothing.
use Rattle.std.specs.Prelude.{Err, IfSome, None, Ok, Option, Some}
use mathlib.Core.Path.{◌≡◌, refl, sym, ap, ◌∙◌}
use mathlib.Core.Bool.{true}
use mathlib.Core.List.{List, ◌∷◌, map}
use mathlib.Core.Logic.{⊎_elim}
use Prim.Native.Nat.{ℕ, ◌+◌, ◌≤◌, ◌<◌}
use native.Mathlib.Omega.{arith}
use lib.ListN.{length, drop, length-append}
use borrow.Author.Tests.{lt-ltb, le-ltb}
use Rattle.common.specs.Lists.{joined}
use Rattle.common.proofs.Loops.{lt_or_ge}
use Rattle.segment.specs.declared.refusal.Refusal.{Refusal}
use Rattle.segment.specs.Records.{Document, Posting, Term, between}
use Rattle.segment.specs.Refusals.{invalid_layout, empty_term_posting_list}
use Rattle.segment.specs.Results.{Answer, ◌>>=◌, check}
use Rattle.segment.specs.Texts.{ends_fit}
use Rattle.segment.specs.Written.{postings_bytes, list_bytes, name_bytes, lists_bytes}
use Rattle.segment.proofs.Binds.{refuse_ok}
use Rattle.calls.specs.Checks.{check_name, check_postings, check_terms}
use Rattle.calls.specs.Given.{term}
use Rattle.pad_map.specs.Bars.{Bar}
use Rattle.pad_write.specs.declared.measure.Tally.{Tally}
use Rattle.pad_write.specs.Steps.{terms_from, last_name, past_sound, past_term, going_on, check_sound, tallied, TalliedAll}
use Rattle.pad_write.proofs.Sounds.{NextSound, come_end}

-- ---- one sound

going_next : (r : Answer (Unit {0})) (w : Tally) {t : Tally} → Ok t ≡ going_on r w → (r ≡ Ok tt) × (t ≡ w)
going_next (Ok u) w e = (refl, cc)
going_next (Err x) w e = let z : ◌≡◌ {A = ℕ} 0 1 = cc in absurd (omega arith)

going_stop : (r : Answer (Unit {0})) (w : Tally) {x : Refusal} → Err x ≡ going_on r w → r ≡ Err x
going_stop (Ok u) w e = let z : ◌≡◌ {A = ℕ} 0 1 = cc in absurd (omega arith)
going_stop (Err y) w e = cc

next_stop : {P : Type 0} {t : Tally} {x : Refusal} → Err x ≡ Ok t → P
next_stop e = let z : ◌≡◌ {A = ℕ} 0 1 = cc in absurd (omega arith)

same_tally : {t u : Tally} → ◌≡◌ {A = Answer Tally} (Ok t) (Ok u) → t ≡ u
same_tally e = cc

module _ (documents : List Document) (text : List ℕ) (n : ℕ) (ps : List Posting) (end : ℕ) (t : Tally) where
  -- the code's answers
  pub tallied_unused : n ≡ 0 → Ok (past_sound t end) ≡ tallied documents text n ps end t
  unfolding tallied
  tallied_unused z = rw (le-ltb 0 n (omega arith))

  module _ (h : n ≡ 0 → ⊥) where
    tallied_used : tallied documents text n ps end t
        ≡ going_on (check_sound documents text ps end t) (past_term t end (length (postings_bytes None ps)))
    unfolding tallied
    tallied_used = rw (lt-ltb 0 n (omega arith))

    module _ {x : Refusal} where
      pub tallied_stop : check_name (last_name text t) (between t.from end text) ≡ Err x
          → Err x ≡ tallied documents text n ps end t
      tallied_stop e = rw (tallied_used, e)

      pub tallied_list_stop : check_name (last_name text t) (between t.from end text) ≡ Ok tt
          → check_postings documents None ps ≡ Err x
          → Err x ≡ tallied documents text n ps end t
      tallied_list_stop e f = rw (tallied_used, e, f)

    pub tallied_next : {size : ℕ} → check_name (last_name text t) (between t.from end text) ≡ Ok tt
        → check_postings documents None ps ≡ Ok tt → size ≡ length (postings_bytes None ps)
        → Ok (past_term t end size) ≡ tallied documents text n ps end t
    tallied_next e f is = rw (tallied_used, e, f, is)

-- ---- all sounds

-- what is still to come makes the whole
pub record TallyLeft (documents : List Document) (bars : List Bar) (text ends : List ℕ) (s : ℕ) (t : Tally) : Type 0 where
  pub few : s ≤ length ends
  pub fit : ends_fit t.from (drop s ends) (length text) ≡ true
  pub last_inside : IfSome t.last (λ n. (n.from ≤ n.to) × (n.to ≤ length text))
  pub names_low : t.names ≤ t.from
  pub terms_low : t.terms ≤ s
  pub checks : check_terms documents (last_name text t) (terms_from bars text ends s t.from)
      ≡ check_terms documents None (terms_from bars text ends 0 0)
  pub count : t.terms + length (terms_from bars text ends s t.from) ≡ length (terms_from bars text ends 0 0)
  pub name_size : t.names + length (name_bytes (terms_from bars text ends s t.from))
      ≡ length (name_bytes (terms_from bars text ends 0 0))
  pub list_size : t.lists + length (lists_bytes (terms_from bars text ends s t.from))
      ≡ length (lists_bytes (terms_from bars text ends 0 0))
  pub lists_low : length (lists_bytes (terms_from bars text ends 0 0)) ≤ 251658240

abbrev pub first_tally : Tally
first_tally = record { terms = 0; names = 0; lists = 0; last = None; from = 0 }

-- a term's checks together
term_stops : (r q : Answer (Unit {0})) (f : Unit {0} → Answer (Unit {0})) (y x : Refusal) → (r >>= λ _. q) ≡ Err x
    → (r >>= λ _. check true y >>= λ _. q >>= f) ≡ Err x
term_stops (Ok u) (Ok v) f y x e = refuse_ok (sym e)
term_stops (Ok u) (Err z) f y x e = e
term_stops (Err z) q f y x e = e

term_goes : (r q : Answer (Unit {0})) (f : Unit {0} → Answer (Unit {0})) (y : Refusal) → (r >>= λ _. q) ≡ Ok tt
    → (r >>= λ _. check true y >>= λ _. q >>= f) ≡ f tt
term_goes (Ok u) (Ok v) f y e = refl
term_goes (Ok u) (Err z) f y e = refuse_ok e
term_goes (Err z) q f y e = refuse_ok e

module _ (documents : List Document) (previous : Option (List ℕ)) (name : List ℕ) (ps : List Posting) (h : 0 < length ps)
    (ts : List Term) where
  abbrev both : Answer (Unit {0})
  both = check_name previous name >>= λ _. check_postings documents None ps

  terms_stop : {x : Refusal} → both ≡ Err x → check_terms documents previous (term name ps ∷ ts) ≡ Err x
  unfolding check_terms
  terms_stop {x} e =
      rw (lt-ltb 0 (length ps) h)
      (term_stops (check_name previous name) (check_postings documents None ps) (λ _. check_terms documents (Some name) ts)
      (invalid_layout empty_term_posting_list) x e)

  terms_go : both ≡ Ok tt → check_terms documents previous (term name ps ∷ ts) ≡ check_terms documents (Some name) ts
  unfolding check_terms
  terms_go e =
      rw (lt-ltb 0 (length ps) h)
      (term_goes (check_name previous name) (check_postings documents None ps) (λ _. check_terms documents (Some name) ts)
      (invalid_layout empty_term_posting_list) e)

-- one term more
pub names_cons : (t : Term) (ts : List Term) → length (name_bytes (t ∷ ts)) ≡ length t.name + length (name_bytes ts)
unfolding name_bytes
names_cons t ts = length-append t.name (joined (map (λ t. t.name) ts))

pub lists_cons : (t : Term) (ts : List Term) → length (lists_bytes (t ∷ ts)) ≡ length (list_bytes t) + length (lists_bytes ts)
unfolding lists_bytes
lists_cons t ts = length-append (list_bytes t) (joined (map list_bytes ts))

module _ (documents : List Document) (bars : List Bar) (text ends : List ℕ) where
  pub tally_begin : ends_fit 0 ends (length text) ≡ true → length (lists_bytes (terms_from bars text ends 0 0)) ≤ 251658240
      → TallyLeft documents bars text ends 0 first_tally
  tally_begin fit low = record {
    few = omega arith;
    fit = fit;
    last_inside = tt;
    names_low = omega arith;
    terms_low = omega arith;
    checks = refl;
    count = omega arith;
    name_size = omega arith;
    list_size = omega arith;
    lists_low = low;
  }

  module _ (s : ℕ) (t : Tally) (l : TallyLeft documents bars text ends s t) where
    pub tally_done : length ends ≤ s → TalliedAll documents (terms_from bars text ends 0 0) t
    unfolding check_terms name_bytes lists_bytes
    tally_done h =
        let e = come_end bars text ends s t.from h in
        record {
          passed = sym (rw e at l.checks);
          count = omega (arith, rw e at l.count);
          name_size = omega (arith, rw e at l.name_size);
          list_size = omega (arith, rw e at l.list_size);
        }

    module _ {n end : ℕ} {ps : List Posting} (x : NextSound bars text ends s t.from n end ps) where
      abbrev coming : List Term
      coming = terms_from bars text ends (s + 1) end

      pub tally_stop : {y : Refusal} → Err y ≡ tallied documents text n ps end t
          → check_terms documents None (terms_from bars text ends 0 0) ≡ Err y
      tally_stop e =
          ⊎_elim
          (λ (k : 0 < n).
          let u = going_stop (check_sound documents text ps end t) _ (e ∙ tallied_used documents text n ps end t (λ z. omega arith)) in
          sym l.checks ∙ ap (check_terms documents (last_name text t)) (x.taken k)
          ∙ terms_stop documents (last_name text t) (between t.from end text) ps (omega (arith, x.count)) coming u)
          (λ (k : n ≤ 0). next_stop (e ∙ sym (tallied_unused documents text n ps end t (omega arith))))
          (lt_or_ge 0 n)

      unused_next : n ≡ 0 → TallyLeft documents bars text ends (s + 1) (past_sound t end)
      unused_next z =
          let e = x.skipped z in
          record {
            few = x.few;
            fit = x.rest;
            last_inside = l.last_inside;
            names_low = omega (arith, l.names_low, x.order);
            terms_low = omega (arith, l.terms_low);
            checks = rw e at l.checks;
            count = rw e at l.count;
            name_size = rw e at l.name_size;
            list_size = rw e at l.list_size;
            lists_low = l.lists_low;
          }

      used_next : 0 < n → check_sound documents text ps end t ≡ Ok tt
          → TallyLeft documents bars text ends (s + 1) (past_term t end (length (postings_bytes None ps)))
      used_next k u =
          let e = x.taken k in
          let name = between t.from end text in
          record {
            few = x.few;
            fit = x.rest;
            last_inside = (x.order, x.inside);
            names_low = omega (arith, l.names_low, x.order);
            terms_low = omega (arith, l.terms_low);
            checks =
                sym (terms_go documents (last_name text t) name ps (omega (arith, x.count)) coming u)
                ∙ ap (check_terms documents (last_name text t)) (sym e)
                ∙ l.checks;
            count = omega (arith, rw e at l.count);
            name_size = omega (arith, rw e at l.name_size, names_cons (term name ps) coming, x.size);
            list_size = omega (arith, rw e at l.list_size, lists_cons (term name ps) coming);
            lists_low = l.lists_low;
          }

      pub tally_next : {t' : Tally} → Ok t' ≡ tallied documents text n ps end t → TallyLeft documents bars text ends (s + 1) t'
      tally_next {t'} e =
          ⊎_elim
          (λ (k : 0 < n).
          let (u, is_t) =
          going_next (check_sound documents text ps end t) _ (e ∙ tallied_used documents text n ps end t (λ z. omega arith)) in
          rw is_t (used_next k u))
          (λ (k : n ≤ 0).
          let is_t : t' ≡ past_sound t end = same_tally (e ∙ sym (tallied_unused documents text n ps end t (omega arith))) in
          rw is_t (unused_next (omega arith)))
          (lt_or_ge 0 n)
