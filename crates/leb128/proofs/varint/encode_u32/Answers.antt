use mathlib.Core.Path.{sym, ap, ◌∙◌}
use native.Mathlib.Omega.{arith}
use native.Mathlib.Numerals.{add-one}
use lib.ListN.{length, length-set}
use lib.Seq.{sets}
use Rattle.leb128.proofs.Shortest.{last_byte, more_bytes}
use Rattle.leb128.proofs.varint.encode_u32.Goals as goal

pub bounds-out-i : goal.bounds-out-i
bounds-out-i c =
    omega (arith, ap length (more_bytes c.loop-rest.rest (omega arith) (omega arith)))

pub loop-rest-preserved : goal.loop-rest-preserved
loop-rest-preserved c =
    let l = c.loop-rest in
    let e = more_bytes l.rest (omega arith) (omega arith) in (
      omega arith,
      omega (arith, ap length e),
      length-set l.out l.i _ ∙ l.invariant.2,
      rw (add-one l.i) (ap (sets l.out l.i) (sym e) ∙ l.invariant.3),
    )

pub bounds-out-i-2 : goal.bounds-out-i-2
bounds-out-i-2 c =
    omega (arith, ap length (last_byte c.loop-rest.rest (omega arith)))

pub returns : goal.returns
returns c =
    let l = c.loop-rest in
    let e = last_byte l.rest (omega arith) in
    record {
      past = omega (arith, ap length e);
      left = ap (sets l.out l.i) (sym e) ∙ l.invariant.3;
    }
