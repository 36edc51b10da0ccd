-- Numbers of one byte each.
use Rattle.std.specs.Prelude.{ℕ, ◌+◌, ◌≤◌, ◌<◌, List, length, get_or}

-- from an offset on so many bytes are there, and each of them is below 128: a number of its own
pub record Singles (bytes : List ℕ) (at count : ℕ) : Type 0 where
  pub room : at + count ≤ length bytes
  pub low : (i : ℕ) → i < count → get_or bytes (at + i) 0 < 128
