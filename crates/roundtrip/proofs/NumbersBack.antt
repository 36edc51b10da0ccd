-- A number that was written in a fixed width, or as a gap, is read back.
-- Assumes nothing.
use Rattle.std.specs.Prelude.{None, Option, Some}
use mathlib.Core.Path.{◌≡◌, refl}
use mathlib.Core.Bool.{true}
use Prim.Native.Nat.{ℕ, zero, suc, ◌/◌, ◌^◌, ◌<◌}
use native.Mathlib.Nat.{pow-suc}
use native.Mathlib.Omega.{arith}
use borrow.Author.Tests.{ltb-true}
use Rattle.segment.specs.Records.{little_endian, at_gap, rises, gap}
use Rattle.segment.specs.Written.{fixed}

pub fixed_back : (n x : ℕ) → x < 256 ^ n → little_endian (fixed n x) ≡ x
fixed_back zero x h = omega arith
fixed_back (suc n) x h = rw (fixed_back n (x / 256) (omega (arith, pow-suc 256 n))) (omega arith)

-- the value at the gap is the value, and the gap is no greater
pub gap_back : (previous : Option ℕ) (v : ℕ) → rises previous v ≡ true → at_gap previous (gap previous v) ≡ v
gap_back None v t = refl
gap_back (Some p) v t = omega (arith, ltb-true p v t)

pub gap_lt : (previous : Option ℕ) (v b : ℕ) → v < b → gap previous v < b
gap_lt None v b h = h
gap_lt (Some p) v b h = omega arith
