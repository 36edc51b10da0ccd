-- A value that was read, whatever its refusals: its gap, that it rises, the bytes after it.
-- Assumes nothing.
use Rattle.segment.specs.declared.refusal.Section.{Section}
use Rattle.std.specs.Prelude.{None, Ok, Option, Some}
use mathlib.Core.Path.{◌≡◌, refl, ap, ◌∙◌}
use mathlib.Core.List.{List}
use mathlib.Core.Bool.{true}
use Prim.Native.Nat.{ℕ, suc, ◌^◌}
use lib.Dec.{ltb}
use lib.ListN.{drop}
use Rattle.leb128.specs.Leb128.{Leb, stored}
use Rattle.segment.specs.declared.refusal.Refusal.{Refusal}
use Rattle.segment.specs.Refusals.{postings}
use Rattle.segment.specs.Records.{Read, number, number_or, at_gap, rises}
use Rattle.segment.specs.Postings.{read_value}
use Rattle.read_cursors.specs.Held.{skipped}
use Rattle.segment.proofs.Binds.{refuse_ok, ok_same, bind_gives, both_gives}

-- ---- a number

pub record NumberRead (bytes : List ℕ) (a : Read ℕ) : Type 0 where
  pub leb : Leb
  pub found : stored bytes ≡ Some leb
  pub is : record { got = leb.value; rest = drop leb.size bytes } ≡ a

number_or_read : (section : Section) (i : ℕ) (bytes : List ℕ) {a : Read ℕ} (o : Option Leb) → stored bytes ≡ o → number_or section i bytes o ≡ Ok a
    → NumberRead bytes a
number_or_read section i bytes None s e = refuse_ok e
number_or_read section i bytes (Some r) s e = record { leb = r; found = s; is = ok_same e }

pub number_read : (section : Section) (i : ℕ) (bytes : List ℕ) {a : Read ℕ} → number section i bytes ≡ Ok a → NumberRead bytes a
number_read section i bytes e = number_or_read section i bytes (stored bytes) refl e

module _ {bytes : List ℕ} {a : Read ℕ} (r : NumberRead bytes a) where
  pub number_any : (section : Section) (i : ℕ) → number section i bytes ≡ Ok a
  number_any section i = rw r.found (ap Ok r.is)

  pub number_skipped : (n : ℕ) → skipped (suc n) bytes ≡ skipped n a.rest
  unfolding skipped
  number_skipped n = rw r.found (ap (λ (x : Read ℕ). skipped n x.rest) r.is)

-- ---- a value

pub record ValueRead (previous : Option ℕ) (bytes : List ℕ) (a : Read ℕ) : Type 0 where
  pub gap : Read ℕ
  pub number : NumberRead bytes gap
  pub small : ltb (at_gap previous gap.got) (2 ^ 32) ≡ true
  pub order : rises previous (at_gap previous gap.got) ≡ true
  pub is : record { got = at_gap previous gap.got; rest = gap.rest } ≡ a

pub value_read : (o r : Refusal) (i : ℕ) (previous : Option ℕ) (bytes : List ℕ) {a : Read ℕ} → read_value o r i previous bytes ≡ Ok a
    → ValueRead previous bytes a
unfolding read_value
value_read o r i previous bytes e =
    let (g, is, f) = bind_gives (number postings i bytes) _ e in
    let v = at_gap previous g.got in
    let t = both_gives (ltb v (2 ^ 32)) (rises previous v) o r (record { got = v; rest = g.rest }) f in
    record { gap = g; number = number_read postings i bytes is; small = t.0; order = t.1; is = t.2 }

module _ {previous : Option ℕ} {bytes : List ℕ} {a : Read ℕ} (r : ValueRead previous bytes a) where
  pub value_any : (o x : Refusal) (i : ℕ) → read_value o x i previous bytes ≡ Ok a
  unfolding read_value
  value_any o x i = rw (number_any r.number postings i, r.small, r.order) (ap Ok r.is)

  pub value_rises : rises previous a.got ≡ true
  value_rises = rw (← r.is) r.order

  pub value_skipped : (n : ℕ) → skipped (suc n) bytes ≡ skipped n a.rest
  value_skipped n = number_skipped r.number n ∙ ap (λ (x : Read ℕ). skipped n x.rest) r.is
