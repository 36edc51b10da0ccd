use mathlib.Core.Path.{◌∙◌}
use Rattle.show_listing.proofs.Texts.{name_range_is}
use Rattle.show_listing.proofs.list.entry_name.Goals as goal

pub returns : goal.returns
returns c =
    let a = c.args in
    name_range_is a.dir.now a.i (c.long-start.ensures ∙ c.read_u32_at.ensures)
    (c.long.ensures ∙ c.read_u32_at-2.ensures)
