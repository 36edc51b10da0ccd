-- Each test tells something of the word's bytes.
use mathlib.Core.Path.{refl}
use Rattle.read_many.proofs.ShortPostings.{short_told}
use native.Mathlib.Omega.{arith}
use Rattle.read_many.proofs.short.short_posting.Goals as goal

pub returns : goal.returns
returns c =
    let a = c.args in
    short_told a.list.now a.at a.len (λ i. omega (arith, c.type_inv.list i)) (omega arith) (omega arith)
    c.read_usize_at-word.result _ c.past_bytes-end.result _ _ _ c.read_usize_at-word.ensures refl (omega arith) (omega arith)
    c.past_bytes-end.ensures refl c.if-gaps-ne0.false refl c.if-gaps-highs.false
    (omega (arith, c.if-long-gaps.false, c.long.ensures)) refl (omega arith) (omega arith)
