-- A stored number by its offset in a slice is the definitions' number off the front of a list.
-- Assumes nothing.
use Rattle.segment.specs.declared.refusal.Section.{Section}
use Rattle.std.specs.Prelude.{Err, None, Ok, Option, Some}
use mathlib.Core.Path.{◌≡◌, refl, sym, ap, ◌∙◌}
use mathlib.Core.List.{List, [], ◌∷◌}
use mathlib.Core.Bool.{Bool, true, false, cond}
use Prim.Native.Nat.{ℕ, suc, ◌+◌, ◌-◌, ◌^◌, ◌≤◌, ◌<◌}
use native.Mathlib.Omega.{arith}
use lib.Dec.{ltb}
use lib.ListN.{length, drop, length-drop}
use lib.Seq.{drop-drop}
use borrow.Author.Tests.{lt-ltb, le-ltb}
use Rattle.leb128.specs.declared.varint.Number.{Number}
use Rattle.leb128.specs.Leb128.{Leb, below, uleb128, stored}
use Rattle.leb128.specs.Promise.{decoded, decoded_at}
use Rattle.common.proofs.Loops.{left_suc, left_none}
use Rattle.leb128.proofs.Numbers.{size_pos}
use Rattle.leb128.proofs.Shortest.{accepted_exactly}
use Rattle.segment.specs.declared.refusal.Refusal.{Refusal}
use Rattle.segment.specs.Refusals.{postings, invalid_varint}
use Rattle.segment.specs.Records.{Read, number, number_or, at_gap, rises}
use Rattle.segment.specs.Postings.{read_value}
use Rattle.segment.specs.Results.{Answer, ◌>>=◌, check}
use Rattle.read_cursors.specs.Held.{past, skipped}
use Rattle.read_cursors.specs.Steps.{number_else, value_after, read_rising}
use Rattle.segment.proofs.Binds.{refuse_ok, ok_same, bind_gives, both_gives, carried}

-- a number takes no more bytes than there are
below_fits : (b m : ℕ) (o : Option Leb) (t : Bool) (r : Leb) → cond t (Some (record { value = b; size = 1 })) (below b o) ≡ Some r
    → ((q : Leb) → o ≡ Some q → q.size ≤ m) → r.size ≤ suc m
below_fits b m o true r e ih = let f : 1 ≡ r.size = cc in omega arith
below_fits b m None false r e ih = let z : ◌≡◌ {A = ℕ} 0 1 = cc in absurd (omega arith)
below_fits b m (Some q) false r e ih = let f : suc q.size ≡ r.size = cc in omega (arith, ih q refl)

pub size_fits : (l : List ℕ) (r : Leb) → uleb128 l ≡ Some r → r.size ≤ length l
unfolding uleb128
size_fits [] r e = let z : ◌≡◌ {A = ℕ} 0 1 = cc in absurd (omega arith)
size_fits (b ∷ l) r e = below_fits b (length l) (uleb128 l) (ltb b 128) r e (λ q f. size_fits l q f)

stored_fits : (bytes : List ℕ) (r : Leb) → stored bytes ≡ Some r → (1 ≤ r.size) × (r.size ≤ length bytes) × (r.value < 2 ^ 32)
stored_fits bytes r e =
    let a = (accepted_exactly bytes r.value r.size).0 e in
    (size_pos bytes r a.0, size_fits bytes r a.0, a.2)

-- the index of a number shows in its refusal alone
pub carried_number : (section : Section) (i j : ℕ) (bytes : List ℕ) (o : Option Leb)
    → carried (number_or section i bytes o) ≡ carried (number_or section j bytes o)
carried_number section i j bytes None = refl
carried_number section i j bytes (Some r) = refl

-- where a number was read: below 2^32, of at least one byte, and inside the slice
pub record Taken (s : List ℕ) (at : ℕ) (n : Number) : Type 0 where
  pub small : n.value < 2 ^ 32
  pub onward : at < n.next.at
  pub inside : n.next.at ≤ length s

module _ (s : List ℕ) (at : ℕ) where
  refused_or : (section : Section) (i : ℕ) (o : Option Leb) → decoded at o ≡ None
      → number_or section i (drop at s) o ≡ Err (invalid_varint section i)
  refused_or section i None e = refl
  refused_or section i (Some r) e = let z : ◌≡◌ {A = ℕ} 0 1 = cc in absurd (omega arith)

  pub number_refused : (section : Section) (i : ℕ) → decoded_at s at ≡ None → number section i (drop at s) ≡ Err (invalid_varint section i)
  number_refused section i e = refused_or section i (stored (drop at s)) e

  module _ {n : Number} where
    fields : (r : Leb) → decoded at (Some r) ≡ Some n → (r.value ≡ n.value) × (at + r.size ≡ n.next.at)
    fields r e =
        let q : record { value = r.value; next = record { at = at + r.size } } ≡ n = cc in
        (ap (λ (x : Number). x.value) q, ap (λ (x : Number). x.next.at) q)

    value_or : (section : Section) (i : ℕ) (o : Option Leb) → decoded at o ≡ Some n
        → number_or section i (drop at s) o ≡ Ok (record { got = n.value; rest = drop n.next.at s })
    value_or section i None e = let z : ◌≡◌ {A = ℕ} 0 1 = cc in absurd (omega arith)
    value_or section i (Some r) e = rw (drop-drop, (fields r e).0, (fields r e).1)

    pub number_value : (section : Section) (i : ℕ) → decoded_at s at ≡ Some n
        → number section i (drop at s) ≡ Ok (record { got = n.value; rest = drop n.next.at s })
    number_value section i e = value_or section i (stored (drop at s)) e

    taken_of : (o : Option Leb) → stored (drop at s) ≡ o → decoded at o ≡ Some n → Taken s at n
    taken_of None u e = let z : ◌≡◌ {A = ℕ} 0 1 = cc in absurd (omega arith)
    taken_of (Some r) u e =
        let f = fields r e in
        let g = stored_fits (drop at s) r u in
        record { small = omega arith; onward = omega arith; inside = omega (arith, length-drop at s) }

    pub number_taken : decoded_at s at ≡ Some n → Taken s at n
    number_taken e = taken_of (stored (drop at s)) refl e

-- what was read is below 2^32, and gone from the front
pub record Given (bytes : List ℕ) (n : Read ℕ) : Type 0 where
  pub small : n.got < 2 ^ 32
  pub shorter : length n.rest < length bytes

module _ (section : Section) (i : ℕ) (bytes : List ℕ) {n : Read ℕ} where
  given_of : (o : Option Leb) → stored bytes ≡ o → number_or section i bytes o ≡ Ok n → Given bytes n
  given_of None u e = refuse_ok e
  given_of (Some r) u e =
      let f = ap (λ (x : Read ℕ). x.got) (ok_same e) in
      let g = ap (λ (x : Read ℕ). length x.rest) (ok_same e) in
      let h = stored_fits bytes r u in
      record { small = omega arith; shorter = omega (arith, length-drop r.size bytes) }

  pub number_given : number section i bytes ≡ Ok n → Given bytes n
  number_given e = given_of (stored bytes) refl e

pub value_shorter : (over order : Refusal) (i : ℕ) (previous : Option ℕ) (bytes : List ℕ) {n : Read ℕ}
    → read_value over order i previous bytes ≡ Ok n
    → length n.rest < length bytes
unfolding read_value
value_shorter over order i previous bytes {n} e =
    let (g, is, f) = bind_gives (number postings i bytes) _ e in
    let v = at_gap previous g.got in
    let r = both_gives (ltb v (2 ^ 32)) (rises previous v) over order (record { got = v; rest = g.rest }) f in
    omega (arith, ap (λ (x : Read ℕ). length x.rest) r.2, (number_given postings i bytes is).shorter)

-- so its offset is further on
pub further : (s : List ℕ) (a b : ℕ) → length (drop b s) < length (drop a s) → a < b
further s a b h = omega (arith, length-drop a s, length-drop b s)

-- a number by what it is refused with, whatever that is
module _ {E : Type 0} (malformed : E) (s : List ℕ) (at : ℕ) where
  else_none : (o : Option Leb) → decoded at o ≡ None → number_else malformed (drop at s) o ≡ Err malformed
  else_none None e = refl
  else_none (Some r) e = let z : ◌≡◌ {A = ℕ} 0 1 = cc in absurd (omega arith)

  else_value : {n : Number} (o : Option Leb) → decoded at o ≡ Some n
      → number_else malformed (drop at s) o ≡ Ok (record { got = n.value; rest = drop n.next.at s })
  else_value None e = let z : ◌≡◌ {A = ℕ} 0 1 = cc in absurd (omega arith)
  else_value (Some r) e = rw (drop-drop, (fields s at r e).0, (fields s at r e).1)

-- a value that rises, whatever its refusals, in the order of the code's tests
module _ {E : Type 0} (malformed over order : E) (s : List ℕ) (at : ℕ) where
  pub rising_none : (previous : Option ℕ) → decoded_at s at ≡ None → Err malformed ≡ read_rising malformed over order previous (drop at s)
  unfolding read_rising
  rising_none previous e = rw (else_none malformed s at (stored (drop at s)) e)

  module _ {n : Number} (e : decoded_at s at ≡ Some n) where
    pub rising_first : Ok (record { got = n.value; rest = drop n.next.at s }) ≡ read_rising malformed over order None (drop at s)
    unfolding read_rising
    rising_first = rw (else_value malformed s at (stored (drop at s)) e, lt-ltb n.value (2 ^ 32) (number_taken s at e).small)

    module _ (p : ℕ) where
      pub rising_over : 2 ^ 32 ≤ p + n.value → Err over ≡ read_rising malformed over order (Some p) (drop at s)
      unfolding read_rising
      rising_over h = rw (else_value malformed s at (stored (drop at s)) e, le-ltb (p + n.value) (2 ^ 32) h)

      pub rising_low : p + n.value < 2 ^ 32 → p + n.value ≤ p → Err order ≡ read_rising malformed over order (Some p) (drop at s)
      unfolding read_rising
      rising_low h k =
          rw (else_value malformed s at (stored (drop at s)) e, lt-ltb (p + n.value) (2 ^ 32) h, le-ltb p (p + n.value) k)

      pub rising_next : p + n.value < 2 ^ 32 → p < p + n.value
          → Ok (record { got = p + n.value; rest = drop n.next.at s }) ≡ read_rising malformed over order (Some p) (drop at s)
      unfolding read_rising
      rising_next h k =
          rw (else_value malformed s at (stored (drop at s)) e, lt-ltb (p + n.value) (2 ^ 32) h, lt-ltb p (p + n.value) k)

-- with the refusals of a segment it is the value that the format defines
module _ (over order : Refusal) (i : ℕ) (previous : Option ℕ) where
  number_is : (bytes : List ℕ) (o : Option Leb) → number_or postings i bytes o ≡ number_else (invalid_varint postings i) bytes o
  number_is bytes None = refl
  number_is bytes (Some r) = refl

  tests_are : (t u : Bool) (m : Read ℕ)
      → (check t over >>= (λ _. check u order >>= (λ _. Ok m))) ≡ cond t (cond u (Ok m) (Err order)) (Err over)
  tests_are true true m = refl
  tests_are true false m = refl
  tests_are false true m = refl
  tests_are false false m = refl

  after_is : (g : Answer (Read ℕ))
      → (g >>= (λ gap. check (ltb (at_gap previous gap.got) (2 ^ 32)) over
      >>= (λ _. check (rises previous (at_gap previous gap.got)) order
      >>= (λ _. Ok (record { got = at_gap previous gap.got; rest = gap.rest })))))
      ≡ value_after over order previous g
  after_is (Ok gap) = tests_are _ _ _
  after_is (Err x) = refl

  pub value_is : (bytes : List ℕ)
      → read_value over order i previous bytes ≡ read_rising (invalid_varint postings i) over order previous bytes
  unfolding read_value read_rising
  value_is bytes = after_is (number postings i bytes) ∙ ap (value_after over order previous) (number_is bytes (stored bytes))

-- the same of the format's value
module _ (over order : Refusal) (i : ℕ) (s : List ℕ) (at : ℕ) where
  pub value_none : (previous : Option ℕ) → decoded_at s at ≡ None
      → Err (invalid_varint postings i) ≡ read_value over order i previous (drop at s)
  value_none previous e = rising_none _ over order s at previous e ∙ sym (value_is over order i previous (drop at s))

  module _ {n : Number} (e : decoded_at s at ≡ Some n) where
    pub value_first : Ok (record { got = n.value; rest = drop n.next.at s }) ≡ read_value over order i None (drop at s)
    value_first = rising_first _ over order s at e ∙ sym (value_is over order i None (drop at s))

    module _ (p : ℕ) where
      pub value_over : 2 ^ 32 ≤ p + n.value → Err over ≡ read_value over order i (Some p) (drop at s)
      value_over h = rising_over _ over order s at e p h ∙ sym (value_is over order i (Some p) (drop at s))

      pub value_low : p + n.value < 2 ^ 32 → p + n.value ≤ p → Err order ≡ read_value over order i (Some p) (drop at s)
      value_low h k = rising_low _ over order s at e p h k ∙ sym (value_is over order i (Some p) (drop at s))

      pub value_next : p + n.value < 2 ^ 32 → p < p + n.value
          → Ok (record { got = p + n.value; rest = drop n.next.at s }) ≡ read_value over order i (Some p) (drop at s)
      value_next h k = rising_next _ over order s at e p h k ∙ sym (value_is over order i (Some p) (drop at s))

-- past a number, or nowhere
module _ (s : List ℕ) (at : ℕ) (next : List ℕ → List ℕ) where
  past_value_or : {n : Number} (o : Option Leb) → decoded at o ≡ Some n → past next (drop at s) o ≡ next (drop n.next.at s)
  past_value_or None e = let z : ◌≡◌ {A = ℕ} 0 1 = cc in absurd (omega arith)
  past_value_or (Some r) e = rw (drop-drop, (fields s at r e).1)

  past_refused_or : (o : Option Leb) → decoded at o ≡ None → past next (drop at s) o ≡ drop at s
  past_refused_or None e = refl
  past_refused_or (Some r) e = let z : ◌≡◌ {A = ℕ} 0 1 = cc in absurd (omega arith)

-- a turn of a loop over numbers that are skipped
module _ (s : List ℕ) (count i at : ℕ) {whole : List ℕ} (inv : skipped (count - i) (drop at s) ≡ whole) where
  skip_turn : i < count → past (skipped (count - (i + 1))) (drop at s) (stored (drop at s)) ≡ whole
  unfolding skipped
  skip_turn h = rw (left_suc count i h) at inv

  pub skip_next : {n : Number} → i < count → decoded_at s at ≡ Some n → skipped (count - (i + 1)) (drop n.next.at s) ≡ whole
  skip_next h e = sym (past_value_or s at (skipped (count - (i + 1))) (stored (drop at s)) e) ∙ skip_turn h

  pub skip_stop : i < count → decoded_at s at ≡ None → drop at s ≡ whole
  skip_stop h e = sym (past_refused_or s at (skipped (count - (i + 1))) (stored (drop at s)) e) ∙ skip_turn h

  pub skip_end : count ≤ i → drop at s ≡ whole
  unfolding skipped
  skip_end h = rw (left_none count i h) at inv
