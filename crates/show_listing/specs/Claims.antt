-- What is claimed of the text; proved in proofs/Fitting.antt.
use Rattle.std.specs.Prelude.{ℕ, ◌≤◌, List, length}
use Rattle.calls.specs.Listing.{listing}

-- No listing has more than 687,393 bytes: 21 for the counts, and 21 for each of at most 32,732 documents, as many as have two bytes each in
-- the 65,464 behind the header. A term takes 32 bytes of the segment, and its line is never as long as those of 16 documents
abbrev pub ListingFits : Type 0
ListingFits = (bytes : List ℕ) → length (listing bytes) ≤ 687393
