-- What `first_characters` promises.
use Rattle.std.specs.Prelude.{ℕ, ◌≡◌, List, length, take}
use Rattle.utf8.specs.declared.prefix.Prefix.{Prefix}
use Rattle.utf8.specs.Utf8.{text, decoded}

-- how many the first `most` characters are, and how many octets they have
pub record IsPrefix (bytes : List ℕ) (most : ℕ) (r : Prefix) : Type 0 where
  pub characters : r.characters ≡ length (take most (decoded bytes))
  pub octets : r.octets ≡ length (text (take most (decoded bytes)))
