use mathlib.Core.Path.{◌≡◌, sym, ◌∙◌}
use mathlib.Core.Bool.{true}
use lib.ListN.{take}
use Rattle.segment.specs.Names.{same}
use Rattle.segment.specs.Opening.{magic}
use Rattle.read_open.proofs.Sections.{refused, too_short, no_magic, other_version, flags_set, on_to_ranges}
use Rattle.read_open.proofs.header.read_header.Goals as goal
use Rattle.read_open.proofs.header.read_header.Goals.{Else-not-starts_with}

marked : (c : Else-not-starts_with) → same (take 8 (c.args.bytes.now)) magic ≡ true
marked c = sym c.starts_with.ensures ∙ c.if-not-starts_with.false

pub returns-then-bytes-lt-HEADER_SIZE : goal.returns-then-bytes-lt-HEADER_SIZE
returns-then-bytes-lt-HEADER_SIZE c =
    (refused (too_short _ c.if-bytes-lt-HEADER_SIZE.true))

pub returns-then-not-starts_with : goal.returns-then-not-starts_with
returns-then-not-starts_with c =
    (refused (no_magic c.args.bytes.now (c.if-bytes-lt-HEADER_SIZE.false) (sym c.starts_with.ensures ∙ c.if-not-starts_with.true)))

pub returns-then-version-ne2 : goal.returns-then-version-ne2
returns-then-version-ne2 c =
    (refused (other_version c.args.bytes.now (c.if-bytes-lt-HEADER_SIZE.false) (marked (goal.at.returns-then-version-ne2 c).Else-not-starts_with) c.read_u32_at-version.ensures c.if-version-ne2.true))

pub returns-then-flags-ne0 : goal.returns-then-flags-ne0
returns-then-flags-ne0 c =
    (refused
    (flags_set c.args.bytes.now (c.if-bytes-lt-HEADER_SIZE.false) (marked (goal.at.returns-then-flags-ne0 c).Else-not-starts_with) c.read_u32_at-version.ensures c.if-version-ne2.false
    c.read_u32_at-flags.ensures c.if-flags-ne0.true))

pub returns : goal.returns
returns c =
    on_to_ranges c.args.bytes.now (c.if-bytes-lt-HEADER_SIZE.false) (marked (goal.at.returns c).Else-not-starts_with) c.read_u32_at-version.ensures c.if-version-ne2.false
    c.read_u32_at-flags.ensures c.if-flags-ne0.false c.read_ranges.ensures
