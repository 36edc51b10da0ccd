-- The position counts that stand in a segment's bytes are those of the postings that it decodes to.
-- Assumes nothing.
use Rattle.std.specs.Prelude.{None, Ok, Option, Some}
use mathlib.Core.Path.{◌≡◌, ap, ◌∙◌}
use mathlib.Core.List.{List, [], ◌∷◌}
use Prim.Native.Nat.{ℕ, zero, suc, ◌+◌}
use lib.Dec.{eqb}
use lib.ListN.{length}
use Rattle.crc32.specs.Crc32.{crc32_of}
use Rattle.segment.specs.Records.{Document, Posting, Term, Entry, Given, Read}
use Rattle.segment.specs.Postings.{Head, read_position, read_positions, read_head, read_posting, read_postings, all_postings, decode}
use Rattle.segment.specs.Postings.{total_positions}
use Rattle.segment.specs.Opening.{open_segment}
use Rattle.segment.proofs.Binds.{ok_same, bind_gives}
use Rattle.segment.proofs.Accepted.{check_gives}
use Rattle.roundtrip.specs.Claims.{all_position_counts}
use Rattle.segment.specs.Contents.{decode_all, decode_segment}
use Rattle.segment.specs.Counts.{stored_counts, or_none, entry_counts, position_counts_of}

-- as many positions are read as the count says
positions_many : (count index len : ℕ) (previous : Option ℕ) (bytes : List ℕ) {r : Read (List ℕ)}
    → read_positions count index len previous bytes ≡ Ok r → length r.got ≡ count
unfolding read_positions
positions_many zero index len previous bytes e = rw (← ok_same e)
positions_many (suc n) index len previous bytes e =
    let (p, a, f) = bind_gives (read_position index len previous bytes) _ e in
    let (more, b, g) = bind_gives (read_positions n (suc index) len (Some p.got) p.rest) _ f in
    rw (← ok_same g, positions_many n (suc index) len (Some p.got) p.rest b)

-- a posting that was read: its head, and its positions, as many as the head says
record Parts (place : ℕ) (documents : List Document) (previous : Option ℕ) (bytes : List ℕ) (p : Read Posting) : Type 0 where
  head : Read Head
  all : Read (List ℕ)
  reads_head : read_head place documents previous bytes ≡ Ok head
  reads_all : read_positions head.got.count place head.got.len None head.rest ≡ Ok all
  whole : record { got = record { doc = head.got.doc; positions = all.got }; rest = all.rest } ≡ p

parts : (place : ℕ) (documents : List Document) (previous : Option ℕ) (bytes : List ℕ) {p : Read Posting}
    → read_posting place documents previous bytes ≡ Ok p → Parts place documents previous bytes p
unfolding read_posting
parts place documents previous bytes e =
    let (head, c, h) = bind_gives (read_head place documents previous bytes) _ e in
    let (all, d, i) = bind_gives (read_positions head.got.count place head.got.len None head.rest) _ h in
    record { head = head; all = all; reads_head = c; reads_all = d; whole = ok_same i }

-- one posting more
one_more : (n place : ℕ) (documents : List Document) (previous : Option ℕ) (bytes : List ℕ) {p : Read Posting} {k : ℕ}
    → Parts place documents previous bytes p → stored_counts n (suc place) documents (Some p.got.doc) p.rest ≡ Ok k
    → stored_counts (suc n) place documents previous bytes ≡ Ok (length p.got.positions + k)
unfolding stored_counts
one_more n place documents previous bytes q e =
    let m = positions_many q.head.got.count place q.head.got.len None q.head.rest q.reads_all in
    let later = rw (← q.whole) at e in
    rw (q.reads_head, q.reads_all, ← q.whole, m, later)

list_counts : (n place : ℕ) (documents : List Document) (previous : Option ℕ) (bytes : List ℕ) {r : Read (List Posting)}
    → read_postings n place documents previous bytes ≡ Ok r
    → stored_counts n place documents previous bytes ≡ Ok (total_positions r.got)
unfolding read_postings stored_counts total_positions
list_counts zero place documents previous bytes e = rw (← ok_same e)
list_counts (suc n) place documents previous bytes e =
    let (p, a, f) = bind_gives (read_posting place documents previous bytes) _ e in
    let (more, b, g) = bind_gives (read_postings n (suc place) documents (Some p.got.doc) p.rest) _ f in
    one_more n place documents previous bytes (parts place documents previous bytes a)
    (list_counts n (suc place) documents (Some p.got.doc) p.rest b)
    ∙ ap (λ r. Ok (total_positions r.got)) (ok_same g)

decoded_counts : (documents : List Document) (e : Entry) {ps : List Posting} → decode documents e ≡ Ok ps
    → or_none (stored_counts e.df 0 documents None e.list) ≡ total_positions ps
unfolding decode all_postings
decoded_counts documents e {ps} d =
    let f = (check_gives (eqb (crc32_of e.list) e.checksum) _ _ d).1 in
    let (all, a, g) = bind_gives (read_postings e.df 0 documents None e.list) _ f in
    let h = (check_gives (eqb (length all.rest) 0) _ _ g).1 in
    ap or_none (list_counts e.df 0 documents None e.list a) ∙ ap total_positions (ok_same h)

all_counts : (documents : List Document) (es : List Entry) {ts : List Term} → decode_all documents es ≡ Ok ts
    → entry_counts documents es ≡ all_position_counts ts
unfolding decode_all entry_counts
all_counts documents [] e = rw (← ok_same e)
all_counts documents (x ∷ es) e =
    let (ps, d, f) = bind_gives (decode documents x) _ e in
    let (more, m, g) = bind_gives (decode_all documents es) _ f in
    rw (← ok_same g, decoded_counts documents x d, all_counts documents es m)

pub counts_back : (bytes : List ℕ) {g : Given} → decode_segment bytes ≡ Ok g
    → position_counts_of (open_segment bytes) ≡ all_position_counts g.terms
unfolding decode_segment
counts_back bytes e =
    let (s, o, f) = bind_gives (open_segment bytes) _ e in
    let (ts, d, h) = bind_gives (decode_all s.documents s.entries) _ f in
    ap position_counts_of o ∙ all_counts s.documents s.entries d ∙ ap (λ g. all_position_counts g.terms) (ok_same h)
