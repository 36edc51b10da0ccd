-- What is known of the lists once the postings of each note are counted: which sounds there are, and how many postings each has.
use Rattle.std.specs.Prelude.{ℕ, ◌*◌, List, map, ltb, get_or}
use Rattle.common.specs.Members.{kept}
use Rattle.midi_bars.specs.Bars.{rising_from}

-- the notes that have a posting
unfoldable pub heard : (postings : List ℕ) → List ℕ
heard postings = kept (λ n. ltb 0 (get_or postings n 0)) (rising_from 0 128)

-- their counts
abbrev pub counts_of : (postings : List ℕ) → List ℕ
counts_of postings = map (λ n. get_or postings n 0) (heard postings)

-- 4, 8, 12, ..: where names of four bytes end
abbrev pub fours : (count : ℕ) → List ℕ
fours count = map (λ n. 4 * n) (rising_from 1 count)
