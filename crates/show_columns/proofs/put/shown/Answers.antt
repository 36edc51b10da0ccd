use mathlib.Core.Logic.{⊎_elim}
use borrow.Author.Tests.{lt-ltb, le-ltb, ne_eqb}
use Rattle.show_columns.proofs.put.shown.Goals as goal

pub returns-then-b-lt32 : goal.returns-then-b-lt32
returns-then-b-lt32 c =
    let b = c.args.b in
    ⊎_elim (λ w. rw (lt-ltb b 32 w)) (λ w. rw (le-ltb b 32 w.0, w.1)) c.then-b-lt32.either

pub returns : goal.returns
returns c = rw (le-ltb c.args.b 32 c.if-b-lt32.false, ne_eqb c.args.b 127 c.if-b-eq127.false)
