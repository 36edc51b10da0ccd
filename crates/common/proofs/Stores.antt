-- Stores one behind another are one store; and what is still to be stored while a loop goes on.
-- Assumes nothing.
use mathlib.Core.Path.{◌≡◌, refl, sym, ap, ap₂, ◌∙◌}
use mathlib.Core.List.{List, [], ◌∷◌, ◌++◌}
use Prim.Native.Nat.{ℕ, suc, ◌+◌, ◌≤◌}
use native.Mathlib.Nat.{add-zero}
use native.Mathlib.Omega.{arith}
use lib.ListN.{length, drop, set, length-append, length-drop, length-set}
use lib.Seq.{sets, length-sets}
use Rattle.common.specs.Stores.{Stored}
use Rattle.common.proofs.Loops.{drop_end}
use Rattle.common.proofs.Sets.{sets_append}

pub stored_length : {values l o : List ℕ} {at n : ℕ} → Stored values at l n o → length o ≡ length l
stored_length {values} {l} {at = at} s = ap length s.left ∙ length-sets l at values

-- a run whose first part is stored
pub stored_on : (rest : List ℕ) {part l o whole : List ℕ} {at n : ℕ} → Stored part at l n o → sets l at (part ++ rest) ≡ whole
    → sets o n rest ≡ whole
stored_on rest {part} {l} {at = at} s e =
    ap₂ (λ (r : List ℕ) (k : ℕ). sets r k rest) s.left s.past ∙ sym (sets_append l at part rest) ∙ e

pub stored_append : {a b l o o' : List ℕ} {at n n' : ℕ} → Stored a at l n o → Stored b n o n' o' → Stored (a ++ b) at l n' o'
stored_append {a} {b} s t = record {
  past = omega (arith, length-append a b, s.past, t.past);
  left = t.left ∙ stored_on b s refl;
}

pub stored_four : {a b c d l o₁ o₂ o₃ o₄ : List ℕ} {at n₁ n₂ n₃ n₄ : ℕ}
    → Stored a at l n₁ o₁ → Stored b n₁ o₁ n₂ o₂ → Stored c n₂ o₂ n₃ o₃ → Stored d n₃ o₃ n₄ o₄ → Stored (a ++ b ++ c ++ d) at l n₄ o₄
stored_four a b c d = stored_append (stored_append (stored_append a b) c) d

-- of a run that is stored an element at a time, in a loop over i: what is left of it makes the rest
pub record Storing (values : List ℕ) (at : ℕ) (entry : List ℕ) (i : ℕ) (out : List ℕ) : Type 0 where
  pub few : i ≤ length values
  pub long : length out ≡ length entry
  pub same : sets out (at + i) (drop i values) ≡ sets entry at values

pub storing_start : (values : List ℕ) (at : ℕ) (entry : List ℕ) → Storing values at entry 0 entry
storing_start values at entry = record { few = omega arith; long = refl; same = rw (add-zero at) }

module _ {values entry out : List ℕ} {at i : ℕ} (s : Storing values at entry i out) where
  pub storing_next : {v w : ℕ} → v ≡ w → drop i values ≡ w ∷ drop (i + 1) values → Storing values at entry (i + 1) (set out (at + i) v)
  storing_next {v} e step =
      let next : at + (i + 1) ≡ suc (at + i) = omega arith in
      record {
        few = omega (arith, ap length step, length-drop i values);
        long = length-set out (at + i) v ∙ s.long;
        same = rw (next, e) (ap (sets out (at + i)) (sym step) ∙ s.same);
      }

  pub storing_end : {next : ℕ} → length values ≤ i → next ≡ at + length values → Stored values at entry next out
  storing_end h e = record { past = e; left = rw (drop_end values i h) at s.same }

-- of a run that is being stored: once what is left of it is stored too, all of it is, and there is room for that
pub record ToStore (bytes : List ℕ) (at : ℕ) (entry left : List ℕ) (next : ℕ) (out : List ℕ) : Type 0 where
  pub past : next + length left ≡ at + length bytes
  pub same : sets out next left ≡ sets entry at bytes
  pub room : at + length bytes ≤ length out

-- the same, with the next parts apart from the rest
abbrev pub ahead : List (List ℕ) → List ℕ → List ℕ
ahead [] rest = rest
ahead (p ∷ ps) rest = p ++ ahead ps rest

pub record ToStoreParts (bytes : List ℕ) (at : ℕ) (entry : List ℕ) (parts : List (List ℕ)) (rest : List ℕ) (next : ℕ)
    (out : List ℕ) : Type 0 where
  pub all : ToStore bytes at entry (ahead parts rest) next out

pub to_start : {bytes entry : List ℕ} {at : ℕ} → at + length bytes ≤ length entry → ToStore bytes at entry bytes at entry
to_start h = record { past = refl; same = refl; room = h }

module _ {bytes entry out : List ℕ} {at next : ℕ} where
  module _ {parts : List (List ℕ)} {part rest : List ℕ} (t : ToStoreParts bytes at entry (part ∷ parts) rest next out) where
    pub to_room : next + length part ≤ length out
    to_room = omega (arith, length-append part (ahead parts rest))

    pub to_next : {out' : List ℕ} {next' : ℕ} → Stored part next out next' out' → ToStoreParts bytes at entry parts rest next' out'
    to_next s = record {
      all = record {
        past = omega (arith, length-append part (ahead parts rest));
        same =
            ap₂ (λ (r : List ℕ) (k : ℕ). sets r k (ahead parts rest)) s.left s.past
            ∙ sym (sets_append out next part (ahead parts rest)) ∙ t.all.same;
        room = omega (arith, ap length s.left, length-sets out next part);
      };
    }

  pub to_length : {left : List ℕ} → ToStore bytes at entry left next out → length out ≡ length entry
  to_length {left} t = sym (length-sets out next left) ∙ ap length t.same ∙ length-sets entry at bytes

  pub to_end : ToStore bytes at entry [] next out → Stored bytes at entry next out
  to_end t = record { past = omega arith; left = t.same }
