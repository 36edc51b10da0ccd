-- What "surely in order" promises of the lists that were checked.
use Rattle.std.specs.Prelude.{Ok, ℕ, ◌<◌, ◌≡◌, List, get_or}
use Rattle.segment.specs.Records.{Document, Posting, between}
use Rattle.segment.specs.Postings.{all_postings}

-- a list's bytes decode to as many postings as the directory says
pub record Decodes (df : ℕ) (documents : List Document) (bytes : List ℕ) : Type 0 where
  pub decoded : List Posting
  pub is : all_postings df documents bytes ≡ Ok decoded

-- every one of m lists does: list k has get_or dfs k postings and lies in bytes from get_or starts k up to get_or ends k
pub record AllDecode (documents : List Document) (bytes : List ℕ) (m : ℕ) (starts ends dfs : List ℕ) : Type 0 where
  pub each : (k : ℕ) → k < m → Decodes (get_or dfs k 0) documents (between (get_or starts k 0) (get_or ends k 0) bytes)
