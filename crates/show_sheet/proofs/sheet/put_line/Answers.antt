use mathlib.Core.Path.{◌≡◌}
use native.Mathlib.Omega.{arith}
use Rattle.segment.specs.Records.{between}
use Rattle.read_open.specs.Steps.{cut, name_at}
use Rattle.show_listing.proofs.Texts.{name_between}
use Rattle.read_terms.proofs.Finding.{own_entry}
use Rattle.show_sheet.proofs.Entries.{not_drawn, hits_many, hits_small, line_drawn, line_room}
use Rattle.show_sheet.proofs.sheet.put_line.Goals as goal
use Rattle.show_sheet.proofs.sheet.put_line.Goals.{After-entry_name-name}
use Rattle.show_sheet.proofs.sheet.put_line.Goals.{then-here-eq0-via-then-here-eq0, then-here-eq0-via-else-here-eq0+then-here-bar}

-- the entry's name
named : (n : After-entry_name-name) → let a = n.args in
    let r = n.entry_name-name.result in
    between r.start r.end (cut a.bytes.now a.at).names
    ≡ name_at (cut a.bytes.now a.at).directory (cut a.bytes.now a.at).names a.i
named n =
    let a = n.args in
    name_between (cut a.bytes.now a.at).directory (cut a.bytes.now a.at).names a.i n.entry_name-name.ensures

pub entry_list-list-requires : goal.entry_list-list-requires
entry_list-list-requires c = own_entry c.requires.0.opened c.args.i c.requires.1

pub returns-then-here-eq0 : goal.returns-then-here-eq0
returns-then-here-eq0 c =
    not_drawn _ _ _ _ c.requires.0 c.requires.1 c.entry_list-list.ensures c.requires.2.decoded _ _ c.start.ensures c.seek-here.ensures
    (λ h same. elim c.then-here-eq0.branch [
      | then-here-eq0-via-then-here-eq0 w ↦ omega (arith, w.if-here-eq0.true)
      | then-here-eq0-via-else-here-eq0+then-here-bar w ↦ omega (arith, w.if-here-bar.true, same)
    ])

pub put_sound-requires : goal.put_sound-requires
put_sound-requires c =
    let first = c.start.ensures in
    let there = hits_small _ _ _ _ c.requires.0 c.requires.1 c.entry_list-list.ensures c.requires.2.decoded _ _ first c.seek-here.ensures
    (omega arith) c.if-here-bar.false in
    let many = hits_many _ _ _ _ c.requires.0 c.requires.1 c.entry_list-list.ensures c.requires.2.decoded _ _ first c.seek-here.ensures
    (omega arith) c.if-here-bar.false in
    let wide = line_room _ _ _ _ c.requires.0 c.requires.1 c.entry_list-list.ensures c.requires.2.decoded _ _ first c.seek-here.ensures
    (omega arith) c.if-here-bar.false (named (goal.at.put_sound-requires c).After-entry_name-name) in
    (there, many, omega (arith, c.requires.2.room, wide))

pub returns : goal.returns
returns c =
    rw (line_drawn _ _ _ _ c.requires.0 c.requires.1 c.entry_list-list.ensures c.requires.2.decoded _ _ c.start.ensures
    c.seek-here.ensures (omega arith) c.if-here-bar.false (named (goal.at.returns c).After-entry_name-name))
    c.put_sound.ensures
