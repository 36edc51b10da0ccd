-- One byte of a number's column, as the code stores it.
use Rattle.std.specs.Prelude.{ℕ, ◌+◌, ◌%◌, cond, eqb}

-- a number's columns in front of its last digit, from the right: of the rest its last digit, or a space where nothing is left
abbrev pub digit_of : ℕ → ℕ
digit_of rest = cond (eqb rest 0) 32 (48 + rest % 10)
