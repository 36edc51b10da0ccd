-- A document's length, over ids and lengths side by side: what is answered, and what the search rests on.
use Rattle.std.specs.Prelude.{None, Option, Some, ℕ, ◌<◌, List, length, get_or}

abbrev pub known_means : Option ℕ → Option ℕ
known_means (Some n) = Some n
known_means None = None

-- each next one is greater, by index
abbrev pub RisingByIndex : List ℕ → Type 0
RisingByIndex xs = (i j : ℕ) → i < j → j < length xs → get_or xs i 0 < get_or xs j 0
