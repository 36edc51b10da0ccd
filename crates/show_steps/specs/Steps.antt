-- One step of a bar, as the code reads it from a cursor.
use Rattle.std.specs.Prelude.{ℕ, cond, ◌&&◌, ltb, eqb}
use Rattle.read_cursors.specs.declared.positions.Positions.{Positions}

-- o where a hit remains and the next one is this step; else as in a bar with no hits
abbrev pub mark_at : (c : Positions) (len step : ℕ) → ℕ
mark_at c len step = cond (ltb 0 c.remaining && eqb c.pos.0 step) 111 (cond (ltb step len) 46 32)
