-- Code and definition take the same steps.
use native.Mathlib.Omega.{arith}
use mathlib.Core.Path.{sym}
use borrow.Author.Tests.{eq-eqb, ne_eqb}
use Rattle.std.proofs.lemmas.Grind.{common_steps}
use Rattle.midi_read.specs.Files.{meta}
use Rattle.midi_read.proofs.track.read_meta.Goals as goal

pub returns-in_err-kind : goal.returns-in_err-kind
unfolding meta
returns-in_err-kind c = grind (arith, common_steps)

pub returns-in_err-byte_at : goal.returns-in_err-byte_at
unfolding meta
returns-in_err-byte_at c = grind (arith, common_steps)

pub returns-then-branch-ne0 : goal.returns-then-branch-ne0
unfolding meta
returns-then-branch-ne0 c =
    rw (sym c.in_ok-kind.ensures, eq-eqb _ _ c.if-kind-eq47.true, sym c.in_ok-byte_at.ensures, ne_eqb _ _ c.if-branch-ne0.true)

pub returns-then-kind-eq47 : goal.returns-then-kind-eq47
unfolding meta
returns-then-kind-eq47 c =
    rw (sym c.in_ok-kind.ensures, eq-eqb _ _ c.if-kind-eq47.true, sym c.in_ok-byte_at.ensures, eq-eqb _ _ c.if-branch-ne0.false)

pub returns : goal.returns
unfolding meta
returns c = rw (sym c.in_ok-kind.ensures, ne_eqb _ _ c.if-kind-eq47.false) c.skip.ensures
