use Rattle.read_open.proofs.Openings.{crc_differs, crc_agrees}
use Rattle.read_open.proofs.open_segment.check_crc.Goals as goal

pub returns-then-crc32-read_u32_at : goal.returns-then-crc32-read_u32_at
returns-then-crc32-read_u32_at c =
    crc_differs _ _ _ _ c.crc32.ensures c.read_u32_at.ensures c.if-crc32-read_u32_at.true

pub returns : goal.returns
returns c = crc_agrees _ _ _ _ c.crc32.ensures c.read_u32_at.ensures c.if-crc32-read_u32_at.false
