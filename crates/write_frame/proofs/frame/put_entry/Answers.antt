-- Six stores, the last two over a list that the slice already holds.
use mathlib.Core.Path.{sym}
use Prim.Native.Nat.{◌-◌}
use native.Mathlib.Omega.{arith}
use lib.ListN.{drop, length-drop}
use lib.Seq.{length-take-le}
use Rattle.write_frame.proofs.Framed.{entry_stored}
use Rattle.write_frame.proofs.frame.put_entry.Goals as goal

pub returns : goal.returns
returns c =
    let a = c.args in
    let both = c.crc32_and_on-both.ensures in
    record {
      stored =
          entry_stored a.out.now a.at a.name a.name_len a.lists a.list a.end a.df
          (sym (length-take-le (a.end - a.list) (drop a.list a.out.now) (omega (arith, length-drop a.list a.out.now)))) both.own
          c.put_u32-next.ensures c.put_u32-next-2.ensures c.put_u64-next.ensures c.put_u64-next-2.ensures
          c.put_u32-next-3.ensures c.put_u32-entry.ensures;
      carried = both.run;
    }
