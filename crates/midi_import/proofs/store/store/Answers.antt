use Rattle.midi_import.proofs.Listed.{heads_fit, fill_fits, fillable, fill_done, store_done}
use Rattle.midi_import.proofs.store.store.Goals as goal

pub put_heads-requires : goal.put_heads-requires
put_heads-requires c = heads_fit c.requires

pub fill-requires : goal.fill-requires
fill-requires c =
    let w = fill_fits c.requires in
    rw (c.from.ensures, c.empty-tables.ensures)
    (fillable _ _ _ w.hs w.readable _ _ _ _ _ _ w.starts_are w.marks_are w.posting_ids_fit w.position_counts_fit
    w.positions_fit w.velocities_fit)

pub returns : goal.returns
returns c =
    store_done _ c.requires c.put_heads.ensures (fill_done _ (fill_fits c.requires) (rw (c.from.ensures, c.empty-tables.ensures) at c.fill.ensures))
