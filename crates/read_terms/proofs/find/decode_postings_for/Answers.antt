use Rattle.read_lists.specs.Steps.{positions_in}
use Rattle.read_terms.proofs.Finding.{sum_differs, sum_agrees}
use Rattle.read_terms.proofs.find.decode_postings_for.Goals as goal

pub returns-then-crc32-list : goal.returns-then-crc32-list
returns-then-crc32-list c =
    sum_differs (positions_in _) _ _ c.crc32.ensures c.if-crc32-list.true

pub returns : goal.returns
returns c =
    sum_agrees (positions_in _) _ _ c.crc32.ensures c.if-crc32-list.false c.decode_postings_in.ensures
