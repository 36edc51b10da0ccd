use Rattle.segment.specs.Postings.{total_positions}
use Rattle.read_terms.proofs.Finding.{sum_differs, sum_agrees}
use Rattle.read_terms.proofs.find.decode_postings.Goals as goal

pub returns-then-crc32-list : goal.returns-then-crc32-list
returns-then-crc32-list c =
    sum_differs total_positions _ _ c.crc32.ensures c.if-crc32-list.true

pub returns : goal.returns
returns c =
    sum_agrees total_positions _ _ c.crc32.ensures c.if-crc32-list.false c.decode_postings_bytes.ensures
