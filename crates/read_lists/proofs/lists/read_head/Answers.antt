use Rattle.std.proofs.lemmas.Result.{err_from_is_err_and}
use Rattle.std.specs.Prelude.{Option, Some}
use mathlib.Core.Path.{◌≡◌, sym, ◌∙◌}
use mathlib.Core.Logic.{⊎_elim}
use Prim.Native.Nat.{ℕ}
use native.Mathlib.Omega.{arith}
use Rattle.leb128.specs.Promise.{decoded_at}
use Rattle.segment.specs.Metadata.{length_of}
use Rattle.segment.specs.Steps.{id_of}
use Rattle.read_cursors.specs.Steps.{documents_from}
use Rattle.read_cursors.proofs.DocumentsHeld.{sought_later, sought_found, sought_other}
use Rattle.read_lists.proofs.Heads.{Asked, value_found, head_refused, head_unknown, head_uncounted, head_empty, head_next}
use Rattle.read_lists.proofs.lists.read_head.Goals as goal
use Rattle.read_lists.proofs.lists.read_head.Goals.{After-map, After-seek-here, Else-here-doc, In-Some}

-- the number of the id before
before : (c : After-map) → c.map.result ≡ id_of c.args.previous
before c = grind arith

-- the value that was read, and what the metadata says of a document of that id
abbrev Says : After-seek-here → Option ℕ → Type 0
Says s o =
    let a = s.args in
    Asked a.list.now a.from.at a.place s.map.result (documents_from a.meta.now a.documents) s.in_ok-gap.gap o

asked : (s : After-seek-here) {o : Option ℕ} → length_of (documents_from s.args.meta.now s.args.documents) s.in_ok-gap.gap.value ≡ o → Says s o
asked s e =
    let a = s.args in
    record {
      value = value_found a.list.now a.from.at _ _ (documents_from a.meta.now a.documents) _ s.read_value.ensures s.in_ok-gap.was;
      length = e;
    }

known : (t : Else-here-doc) → let a = t.args in
    Asked a.list.now a.from.at a.place t.map.result (documents_from a.meta.now a.documents) t.in_ok-gap.gap (Some t.seek-here.result.len)
known t =
    let a = t.args in
    record {
      value = value_found a.list.now a.from.at _ _ (documents_from a.meta.now a.documents) _ t.read_value.ensures t.in_ok-gap.was;
      length = sought_found _ _ _ _ t.seek-here.ensures (omega arith) t.if-here-doc.false;
    }

-- the number of positions
counted : (n : In-Some) → decoded_at n.args.list.now n.in_ok-gap.gap.next.at ≡ Some n.in-Some.count
counted n = sym n.decode_u32.ensures ∙ n.in-Some.is

pub returns-in_err-gap : goal.returns-in_err-gap
returns-in_err-gap c =
    let a = c.args in
    let p = err_from_is_err_and c.from_residual.result c.from_residual.ensures.1 in
    rw (p.1, p.2, ← before (goal.at.returns-in_err-gap c).After-map)
    (record {
      reads = head_refused a.list.now a.from.at _ _ (documents_from a.meta.now a.documents) _ c.read_value.ensures c.in_err-gap.was;
      kept = tt;
    })

pub returns-then-here-eq0 : goal.returns-then-here-eq0
returns-then-here-eq0 c =
    let g = goal.at.returns-then-here-eq0 c in
    rw (← before g.After-map)
    (record {
      reads = head_unknown (asked g.After-seek-here (sought_other _ _ _ _ c.seek-here.ensures
          (⊎_elim (λ w h k. omega arith) (λ w h k. w.1 k) c.then-here-eq0.either)));
      kept = tt;
    })

pub returns-in_default : goal.returns-in_default
returns-in_default c =
    let g = goal.at.returns-in_default c in
    rw (← before g.After-map)
    (record { reads = head_uncounted (known g.Else-here-doc) (sym c.decode_u32.ensures ∙ c.in_default.is); kept = tt })

pub returns-then-count-eq0 : goal.returns-then-count-eq0
returns-then-count-eq0 c =
    let g = goal.at.returns-then-count-eq0 c in
    rw (← before g.After-map) (record { reads = head_empty (known g.Else-here-doc) (counted g.In-Some) c.if-count-eq0.true; kept = tt })

pub returns : goal.returns
returns c =
    let g = goal.at.returns c in
    rw (← before g.After-map)
    (record {
      reads = head_next (known g.Else-here-doc) (counted g.In-Some) c.if-count-eq0.false;
      kept = sought_later _ _ _ _ c.seek-here.ensures;
    })
