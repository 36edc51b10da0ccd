use mathlib.Core.Path.{sym, ◌∙◌}
use Rattle.midi_read.proofs.Chunked.{header_short, header_other, header_unfit, header_fits}
use Rattle.midi_read.proofs.chunks.read_header.Goals as goal

pub returns-then-s-lt14 : goal.returns-then-s-lt14
returns-then-s-lt14 c = let a = c.args in header_short a.quarter a.s.now c.if-s-lt14.true

pub returns-then-not-starts_with : goal.returns-then-not-starts_with
returns-then-not-starts_with c =
    let a = c.args in
    header_other a.quarter a.s.now c.if-s-lt14.false
    (sym c.starts_with.ensures ∙ c.if-not-starts_with.true)

pub returns-then-not-is_division : goal.returns-then-not-is_division
returns-then-not-is_division c =
    let a = c.args in
    let starts = sym c.starts_with.ensures ∙ c.if-not-starts_with.false in
    header_unfit a.quarter a.s.now c.if-s-lt14.false starts
    c.read_u16_at-division.ensures (sym c.is_division.ensures ∙ c.if-not-is_division.true)

pub returns : goal.returns
returns c =
    let a = c.args in
    let starts = sym c.starts_with.ensures ∙ c.if-not-starts_with.false in
    header_fits a.quarter a.s.now c.if-s-lt14.false starts
    c.read_u16_at-division.ensures (sym c.is_division.ensures ∙ c.if-not-is_division.false) c.from.ensures
