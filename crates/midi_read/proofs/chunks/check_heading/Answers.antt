use Rattle.midi_read.proofs.Chunked.{from_14, heading_short, heading_other, heading_unfit, heading_fits}
use Rattle.midi_read.proofs.chunks.check_heading.Goals as goal

pub returns-then-s-lt22 : goal.returns-then-s-lt22
returns-then-s-lt22 c = heading_short c.args.s.now c.if-s-lt22.true

pub returns-then-not-starts_with : goal.returns-then-not-starts_with
returns-then-not-starts_with c =
    let file = c.args.s.now in
    heading_other file c.if-s-lt22.false
    (from_14 file c.starts_with.ensures c.if-not-starts_with.true)

pub returns-then-read_u32_at-s : goal.returns-then-read_u32_at-s
returns-then-read_u32_at-s c =
    let file = c.args.s.now in
    heading_unfit file c.if-s-lt22.false
    (from_14 file c.starts_with.ensures c.if-not-starts_with.false)
    c.read_u32_at.ensures c.if-read_u32_at-s.true

pub returns : goal.returns
returns c =
    let file = c.args.s.now in
    heading_fits file c.if-s-lt22.false
    (from_14 file c.starts_with.ensures c.if-not-starts_with.false)
    c.read_u32_at.ensures c.if-read_u32_at-s.false
