-- The earliest chain from each start: what a turn of its loop keeps.
-- Assumes nothing.
use Prim.Native.Nat.{ℕ, zero, suc, ◌+◌, ◌-◌, ◌≤◌, ◌<◌}
use mathlib.Core.Path.{◌≡◌, refl, sym, ap, subst}
use mathlib.Core.Logic.{◌⊎◌, inl, inr, ⊎_elim}
use mathlib.Core.List.{List}
use mathlib.Core.Bool.{true, false}
use native.Mathlib.Nat.{eq-or-lt_of_le}
use native.Mathlib.Omega.{arith}
use Rattle.common.proofs.Loops.{true_false}
use Rattle.read_cursors.specs.declared.positions.Positions.{Positions}
use Rattle.read_cursors.specs.Steps.{positions_from}
use Rattle.ask_match.specs.Steps.{SoughtIn, among, Chain, Chained, Begun}
use Rattle.common.specs.Elements.{◌∈◌}
use Rattle.ask_match.proofs.Members.{sought_in, sought_back, from_low, from_first, from_none}
use Rattle.ask_match.proofs.Places.{each_changed}

zero_or : (m : ℕ) → (m ≡ 0) ⊎ (0 < m)
zero_or zero = inl refl
zero_or (suc m) = inr (omega arith)

-- the position at the cursor of name j
abbrev pub stand : (ℕ → Positions) → ℕ → ℕ
stand cs j = (cs j).pos.0

-- no chain is lost; none starts below start, or has name i below target; the cursors before i are at a chain from start
pub record Walk (n w : ℕ) (init : ℕ → ℕ → Type 0) (b : List ℕ) (cs : ℕ → Positions) (start target i : ℕ) : Type 0 where
  pub keeps : (p : ℕ → ℕ) → Chain n w init p → (j : ℕ) → j < n → among b cs j (p j)
  pub gains : (j q : ℕ) → among b cs j q → init j q
  pub low : (p : ℕ → ℕ) → Chain n w init p → start ≤ p 0
  pub next : (p : ℕ → ℕ) → Chain n w init p → i < n → target ≤ p i
  pub done : (j : ℕ) → j < i → among b cs j (stand cs j) × (stand cs j ≤ start + w)
  pub rise : (j : ℕ) → j + 1 < i → stand cs j < stand cs (j + 1)
  pub head : 0 < i → stand cs 0 ≡ start
  pub last : (j : ℕ) → j + 1 ≡ i → target ≡ stand cs j + 1
  pub fresh : i ≡ 0 → target ≡ start

pub walk_start : {n w : ℕ} {b : List ℕ} {cs : ℕ → Positions} → Walk n w (among b cs) b cs 0 0 0
walk_start = record {
  keeps = λ p f j h. f.on j h;
  gains = λ j q m. m;
  low = λ p f. omega arith;
  next = λ p f h. omega arith;
  done = λ j h. absurd (omega arith);
  rise = λ j h. absurd (omega arith);
  head = λ h. absurd (omega arith);
  last = λ j h. absurd (omega arith);
  fresh = λ e. refl;
}

module _ {n w : ℕ} {init : ℕ → ℕ → Type 0} {b : List ℕ} {cs : ℕ → Positions} {start target i : ℕ}
    (k : Walk n w init b cs start target i) where
  pub chained_some : n ≤ i → Chained n w init true
  chained_some h = record { yes = λ e. (stand cs, chain); no = λ e. true_false e }
    where
      chain : Chain n w init (stand cs)
      chain = record {
        on = λ j l. k.gains j (stand cs j) (k.done j (omega arith)).0;
        up = λ j l. k.rise j (omega arith);
        near = λ j l. omega (arith, (k.done j (omega arith)).1, k.head (omega arith));
      }

  module _ {new : ℕ → Positions} {d : Positions} (so : SoughtIn b target i cs new d) (h : i < n) where
    -- a chain's position of name i is still shown, and not below the cursor's
    shown : (p : ℕ → ℕ) → Chain n w init p → p i ∈ positions_from b d
    shown p f = sought_in so.sought (p i) (k.next p f h) (k.keeps p f i h)

    pub chained_none : d.remaining ≡ 0 → Chained n w init false
    chained_none e = record { yes = λ e. true_false (sym e); no = λ _ p f. from_none b d (p i) e (shown p f) }

    above : (p : ℕ → ℕ) → Chain n w init p → d.pos.0 ≤ p i
    above p f = from_low b d (p i) (shown p f)

    module _ (some : 0 < d.remaining) where
      keeps' : (p : ℕ → ℕ) → Chain n w init p → (j : ℕ) → j < n → among b new j (p j)
      keeps' p f j l = each_changed (λ x c. p x ∈ positions_from b c) so.stored (shown p f) j (k.keeps p f j l)

      gains' : (j q : ℕ) → among b new j q → init j q
      gains' j q =
          each_changed (λ x c. q ∈ positions_from b c → init x q) so.stored
          (λ m. k.gains i q (sought_back so.sought q m)) j (k.gains j q)

      stand_here : stand new i ≡ d.pos.0
      stand_here = ap (λ (c : Positions). c.pos.0) so.stored.here

      stand_before : (j : ℕ) → j < i → stand new j ≡ stand cs j
      stand_before j l = ap (λ (c : Positions). c.pos.0) (so.stored.other j (λ e. omega arith))

      -- the cursor of name i is at the chain too
      module _ {first : ℕ} (be : Begun i start d.pos.0 first) (close : d.pos.0 ≤ first + w) where
        done_here : among b new i (stand new i) × (stand new i ≤ first + w)
        done_here = (rw (stand, so.stored.here) (from_first b d some), rw (stand, so.stored.here) close)

        done_before : (j : ℕ) → j < i → among b new j (stand new j) × (stand new j ≤ first + w)
        done_before j m =
            let o = k.done j m in
            (rw (stand, so.stored.other j (λ e. omega arith)) o.0, omega (arith, stand_before j m, o.1, be.later (omega arith)))

        rise_last : (j : ℕ) → j + 1 ≡ i → stand new j < stand new (j + 1)
        rise_last j z =
            let e : stand new (j + 1) ≡ d.pos.0 = subst (λ (x : ℕ). stand new x ≡ d.pos.0) (sym z) stand_here in
            omega (arith, stand_before j (omega arith), k.last j z, so.sought.reached some)

        ok : Walk n w init b new first (d.pos.0 + 1) (i + 1)
        ok = record {
          keeps = keeps';
          gains = gains';
          low = λ p f. ⊎_elim
              (λ z. omega (arith, be.first z, above p f, ap p z))
              (λ l. omega (arith, be.later l, k.low p f)) (zero_or i);
          next = λ p f l. omega (arith, above p f, f.up i l);
          done = λ j l. ⊎_elim (λ z. rw z done_here) (done_before j) (eq-or-lt_of_le (at_most j i l));
          rise = λ j l. ⊎_elim (rise_last j)
              (λ m. omega (arith, stand_before j (omega arith), stand_before (j + 1) m, k.rise j m))
              (eq-or-lt_of_le (at_most (j + 1) i l));
          head = λ l. ⊎_elim
              (λ z. omega (arith, be.first z, subst (λ (x : ℕ). stand new x ≡ d.pos.0) z stand_here))
              (λ m. omega (arith, be.later m, stand_before 0 m, k.head m)) (zero_or i);
          last = λ j e. let z : j ≡ i = omega arith in omega (arith, ap (stand new) z, stand_here);
          fresh = λ e. absurd (omega arith);
        }
          where
            at_most : (a m : ℕ) → a < m + 1 → a ≤ m
            at_most a m l = omega arith

      pub walk_ok : {pos first : ℕ} → pos ≡ d.pos.0 → Begun i start pos first → pos ≤ first + w
          → Walk n w init b new first (pos + 1) (i + 1)
      walk_ok {pos} {first} e =
          subst (λ (x : ℕ). Begun i start x first → x ≤ first + w → Walk n w init b new first (x + 1) (i + 1)) (sym e) ok

      -- the start is not lowered, and stays below what bounds it and the position
      pub walk_first : {pos first : ℕ} → pos ≡ d.pos.0 → Begun i start pos first → start ≤ first
      walk_first e be =
          ⊎_elim (λ z. omega (arith, be.first z, k.fresh z, so.sought.reached some)) (λ l. omega (arith, be.later l)) (zero_or i)

      pub walk_below : {pos first : ℕ} (m : ℕ) → Begun i start pos first → pos < m → start < m → first < m
      walk_below m be a z = ⊎_elim (λ e. omega (arith, be.first e)) (λ l. omega (arith, be.later l)) (zero_or i)

      pub walk_over : {more : ℕ} → more ≡ d.pos.0 - w → Walk n w init b new more more 0
      walk_over e = record {
        keeps = keeps';
        gains = gains';
        low = λ p f. omega (arith, above p f, f.near i h);
        next = λ p f l. omega (arith, above p f, f.near i h);
        done = λ j l. absurd (omega arith);
        rise = λ j l. absurd (omega arith);
        head = λ l. absurd (omega arith);
        last = λ j l. absurd (omega arith);
        fresh = λ e. refl;
      }
