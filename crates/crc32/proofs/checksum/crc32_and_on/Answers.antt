use mathlib.Core.Path.{sym, ap, ◌∙◌}
use Prim.Native.Nat.{ℕ, ◌+◌}
use native.Mathlib.Omega.{arith}
use lib.Bits.{bit_xor}
use lib.ListN.{drop}
use Rattle.crc32.specs.Parts.{all_taken_in}
use Rattle.crc32.proofs.Carried.{carried_next, carried_done, carried_agrees}
use Rattle.crc32.proofs.checksum.crc32_and_on.Goals as goal

pub loop-next-preserved : goal.loop-next-preserved
loop-next-preserved c =
    let l = c.loop-next in
    let s = c.args.s.now in (
      ap (λ x. all_taken_in x (drop (l.next-index + 1) s)) c.update-own.ensures
          ∙ carried_next s l.next-index l.own (omega arith) ∙ l.invariant.0,
      ap (λ x. all_taken_in x (drop (l.next-index + 1) s)) c.update-run.ensures
          ∙ carried_next s l.next-index l.run (omega arith) ∙ l.invariant.1,
    )

pub returns : goal.returns
returns c =
    let l = c.loop-next in
    let s = c.args.s.now in
    record {
      own =
          c.finish.ensures
          ∙ ap (λ (x : ℕ). bit_xor x 0xFFFFFFFF) (sym (carried_done s l.next-index l.own (omega arith)) ∙ l.invariant.0)
          ∙ carried_agrees s;
      run = sym (carried_done s l.next-index l.run (omega arith)) ∙ l.invariant.1;
    }
