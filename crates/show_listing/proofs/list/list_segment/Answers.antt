use Rattle.std.specs.Prelude.{None, Ok}
use Prim.Native.Nat.{◌+◌, ◌*◌, ◌≤◌, ◌<◌}
use mathlib.Core.Path.{◌≡◌, ◌∙◌}
use native.Mathlib.Omega.{arith}
use lib.ListN.{length}
use Rattle.common.proofs.Bytes.{each_below}
use Rattle.segment.specs.Records.{Segment}
use Rattle.read_open.specs.Opened.{IsOpen}
use Rattle.calls.specs.Listing.{text_of}
use Rattle.read_open.specs.Steps.{cut}
use Rattle.read_cursors.specs.Held.{held_documents}
use Rattle.read_cursors.proofs.DocumentsHeld.{held_rise}
use Rattle.show_listing.proofs.Texts.{past_pair, document_lines_length, entry_lines_most}
use Rattle.show_listing.proofs.Widths.{bytes_between}
use Rattle.show_listing.proofs.Listed.{listed, no_place, held_length, text_length, segment_stored}
use Rattle.show_listing.proofs.list.list_segment.Goals as goal
use Rattle.show_listing.proofs.list.list_segment.Goals.{After-entries_len-lines}

-- both counts have 32 bits
small : (c : After-entries_len-lines) → let l = c.args.at in
    (l.documents < 10000000000) × (l.terms < 10000000000)
small c = (omega arith, omega arith)

-- the text's length, from the counts and the terms' lines
size : (c : After-entries_len-lines) {s : Segment} → let a = c.args in
    IsOpen a.bytes.now a.at s → length (text_of (Ok s)) ≡ 21 + a.at.documents * 21 + c.entries_len-lines.result
size c o =
    let lines = rw c.long-terms.ensures at c.entries_len-lines.ensures in
    omega (arith, text_length o (small c).0 (small c).1, lines)

-- each line has at most 75 bytes
few : (c : After-entries_len-lines) → c.entries_len-lines.result ≤ 75 * c.long-terms.result
few c =
    let bytes = c.args.bytes.now in
    let l = c.args.at in
    let whole = each_below bytes (λ i. omega (arith, c.type_inv.bytes i)) in
    let b = bytes_between 72 l.names whole in
    let terms = c.long-terms.result in
    omega (arith, c.entries_len-lines.ensures, entry_lines_most (cut bytes l).directory (cut bytes l).names b terms 0)

pub entries_len-lines-requires : goal.entries_len-lines-requires
entries_len-lines-requires c =
    let terms = c.long-terms.ensures in
    (λ i h. c.requires.1.sorted.inside i (omega arith), omega arith)

pub overflow_add-needed-2 : goal.overflow_add-needed-2
overflow_add-needed-2 c = omega (arith, few c)

pub returns-then-out-needed : goal.returns-then-out-needed
returns-then-out-needed c s o =
    no_place (size (goal.at.returns-then-out-needed c).After-entries_len-lines o ∙ omega arith) (omega arith)

pub put_documents-next-requires : goal.put_documents-next-requires
put_documents-next-requires c =
    let o = c.requires.1 in
    omega (arith, held_length o, past_pair _ _ c.put_pair-next.ensures (omega arith) (omega arith))

pub put_entries-requires : goal.put_entries-requires
put_entries-requires c =
    let terms = c.long-terms.ensures in
    let counts = small (goal.at.put_entries-requires c).After-entries_len-lines in
    let held = held_documents c.args.at.documents None (cut c.args.bytes.now c.args.at).metadata in
    record {
      inside = λ i h. c.requires.1.sorted.inside i (omega arith);
      room = omega (
        arith,
        held_length c.requires.1,
        past_pair _ _ c.put_pair-next.ensures counts.0 counts.1,
        c.put_documents-next.ensures.past,
        document_lines_length 0 held (held_rise _ None _),
        c.entries_len-lines.ensures,
      );
    }

pub returns : goal.returns
returns c s o =
    listed (size (goal.at.returns c).After-entries_len-lines o)
    (segment_stored o c.put_pair-next.ensures c.put_documents-next.ensures
    (rw c.long-terms.ensures at c.put_entries.ensures))
    (omega (arith, held_length o))
