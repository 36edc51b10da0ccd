-- Lists decoded together: a list whose checksum matches and whose bytes decode, decodes; and the tables that the lists are spread over.
-- Assumes nothing.
use Rattle.std.specs.Prelude.{None}
use mathlib.Core.Path.{◌≡◌}
use mathlib.Core.List.{List}
use Prim.Native.Nat.{ℕ, ◌+◌, ◌<◌}
use native.Mathlib.Omega.{arith}
use lib.ListN.{length, get_or, set}
use borrow.Author.Tests.{eq-eqb}
use Rattle.std.proofs.Common.{get_or-set_other, get_or-set_same, below_more}
use Rattle.crc32.specs.Crc32.{crc32_of}
use Rattle.segment.specs.Records.{Document, between}
use Rattle.segment.specs.Postings.{decode}
use Rattle.read_terms.specs.declared.find.TermList.{TermList}
use Rattle.read_cursors.specs.Held.{held_documents}
use Rattle.read_open.specs.declared.header.Layout.{Layout}
use Rattle.read_open.specs.Steps.{cut}
use Rattle.read_many.specs.Promise.{Decodes, AllDecode}
use Rattle.read_terms.specs.Steps.{list_entry}
use Rattle.read_terms.specs.Together.{no_list, ListDecodes, ListsDecode, SumMatches, SumsMatch, Spread}
use Rattle.read_terms.specs.Together.{EntriesSpread, EntriesDecode}

-- a table filled so far with a number of each list
abbrev pub FilledTo : (number : TermList → ℕ) (lists : List TermList) (k : ℕ) (table : List ℕ) → Type 0
FilledTo number lists k table = (j : ℕ) → j < k → get_or table j 0 ≡ number (get_or lists j no_list)

pub filled_more : (number : TermList → ℕ) (lists : List TermList) (k : ℕ) (table : List ℕ) {x : ℕ} → k < length table
    → FilledTo number lists k table → x ≡ number (get_or lists k no_list) → FilledTo number lists (k + 1) (set table k x)
filled_more number lists k table {x} below so_far is =
    below_more _ _
    (λ j h. let ne : j ≡ k → ⊥ = (λ e. omega arith) in rw get_or-set_other (so_far j h))
    (rw get_or-set_same is)

-- a list's checksum matches, and its bytes decode
pub sum_and_bytes : {documents : List Document} (bytes : List ℕ) (l : TermList) → SumMatches bytes l
    → Decodes l.df documents (between l.start l.end bytes) → ListDecodes documents (list_entry bytes l)
unfolding decode
sum_and_bytes bytes l s d = record {
  postings = d.decoded;
  decoded = rw (eq-eqb (crc32_of (between l.start l.end bytes)) l.checksum s) d.is;
}

-- the checksum, then the postings
pub decode_together : {documents : List Document} {bytes : List ℕ} {lists : List TermList} {starts ends dfs : List ℕ}
    → SumsMatch bytes lists → Spread lists starts ends dfs → AllDecode documents bytes (length lists) starts ends dfs
    → ListsDecode documents bytes lists
decode_together {bytes = bytes} {lists = lists} s t a = record {
  each = λ k h. sum_and_bytes bytes (get_or lists k no_list) (s.each k h) (rw (t.start k h, t.end k h, t.df k h) at (a.each k h));
}

-- the same of entries whose lists went straight into the tables
pub decode_entries : {bytes : List ℕ} {l : Layout} {from m : ℕ} {starts ends dfs : List ℕ}
    → EntriesSpread bytes l from m starts ends dfs
    → AllDecode (held_documents l.documents None (cut bytes l).metadata) bytes m starts ends dfs → EntriesDecode bytes l from m
decode_entries {bytes = bytes} t a = record {
  each = λ k h.
      let e = t.each k h in
      record { list = e.list; is = e.is; decodes = sum_and_bytes bytes e.list e.sum (rw (e.start_is, e.end_is, e.df_is) at (a.each k h)) };
}
