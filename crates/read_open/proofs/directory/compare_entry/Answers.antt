use mathlib.Core.Path.{ap, ◌∙◌}
use Rattle.segment.specs.Steps.{order}
use Rattle.read_open.proofs.Lookup.{name_is}
use Rattle.read_open.proofs.directory.compare_entry.Goals as goal

pub returns : goal.returns
returns c =
    let a = c.args in
    c.compare.ensures
    ∙ ap (λ l. order l a.name.now)
    (name_is a.dir.now a.names.now a.i (c.long-start.ensures ∙ c.read_u32_at.ensures)
    (c.long.ensures ∙ c.read_u32_at-2.ensures))
