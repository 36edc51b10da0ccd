-- A posting whose numbers take a byte each, with the next one's gap and count, is passed at once.
use native.Mathlib.Omega.{arith}
use Rattle.read_cursors.proofs.QuickSteps.{quick_posting}
use Rattle.read_cursors.proofs.postings.Postings.advance_short.Goals as goal

pub returns : goal.returns
returns c =
    let a = c.args in
    let p = a.self in
    record {
      holds =
          rw (← c.long-n.ensures)
          (quick_posting a.bytes.now p.remaining p.at c.long-n.result p.doc.0 (c.all_single.ensures c.if-not-all_single.false) (omega arith)
          c.byte-gap.result c.byte-count.result c.byte-gap.ensures c.byte-count.ensures (omega arith) (omega arith));
      less = omega arith;
    }
