use native.Mathlib.Omega.{arith}
use Rattle.common.proofs.Bytes.{each_below}
use Rattle.show_listing.proofs.Listed.{listed_large, layout_listable, listed_layout, refused_small, listed_refused}
use Rattle.show_listing.proofs.list.listing.Goals as goal

pub returns-then-bytes-gt65536 : goal.returns-then-bytes-gt65536
returns-then-bytes-gt65536 c = listed_large _ c.if-bytes-gt65536.true c.numbers.ensures c.list_refusal.ensures

pub list_segment-requires : goal.list_segment-requires
list_segment-requires c = layout_listable _ c.open_layout.ensures c.in-Ok.is

pub list_refusal-requires-in-Err : goal.list_refusal-requires-in-Err
list_refusal-requires-in-Err c =
    refused_small _ c.open_layout.ensures c.in-Err.is c.numbers-in-Err.ensures
    (each_below _ (λ i. omega (arith, c.type_inv.bytes i)))

pub returns-in-Ok : goal.returns-in-Ok
returns-in-Ok c = listed_layout _ c.open_layout.ensures c.in-Ok.is (omega arith) c.list_segment.ensures

pub returns-in-Err : goal.returns-in-Err
returns-in-Err c =
    listed_refused _ c.open_layout.ensures c.in-Err.is c.numbers-in-Err.ensures (omega arith) c.list_refusal-in-Err.ensures
