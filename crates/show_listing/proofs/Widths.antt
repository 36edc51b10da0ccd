-- Numbers that a segment holds in four bytes have 32 bits.
-- Assumes nothing.
use mathlib.Core.List.{List}
use Prim.Native.Nat.{ℕ, zero, suc, ◌-◌, ◌^◌, ◌<◌}
use native.Mathlib.Omega.{arith}
use lib.ListN.{take, drop}
use Rattle.common.proofs.Bytes.{Bytes, none, one}
use Rattle.segment.specs.Records.{little_endian, field, between}

bytes_drop : (n : ℕ) {l : List ℕ} → Bytes l → Bytes (drop n l)
bytes_drop zero b = b
bytes_drop (suc n) none = none
bytes_drop (suc n) (one h b) = bytes_drop n b

bytes_take : (n : ℕ) {l : List ℕ} → Bytes l → Bytes (take n l)
bytes_take zero b = none
bytes_take (suc n) none = none
bytes_take (suc n) (one h b) = one h (bytes_take n b)

pub bytes_between : (from to : ℕ) {l : List ℕ} → Bytes l → Bytes (between from to l)
bytes_between from to b = bytes_take (to - from) (bytes_drop from b)

four_small : {l : List ℕ} → Bytes l → little_endian (take 4 l) < 2 ^ 32
four_small none = omega arith
four_small (one a none) = omega arith
four_small (one a (one b none)) = omega arith
four_small (one a (one b (one c none))) = omega arith
four_small (one a (one b (one c (one d l)))) = omega arith

pub field_small : (at : ℕ) {l : List ℕ} → Bytes l → field 4 at l < 2 ^ 32
field_small at b = four_small (bytes_drop at b)
