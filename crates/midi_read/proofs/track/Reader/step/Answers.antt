-- Code and definition take the same steps.
use native.Mathlib.Omega.{arith}
use mathlib.Core.Path.{sym, ◌∙◌}
use borrow.Author.Tests.{eq-eqb, ne_eqb, lt-ltb, le-ltb}
use Rattle.std.proofs.lemmas.Grind.{common_steps}
use Rattle.midi_read.specs.Files.{by_status, read_event}
use Rattle.midi_read.proofs.track.Reader.step.Goals as goal

pub returns-in_err-delta : goal.returns-in_err-delta
unfolding read_event
returns-in_err-delta c = grind (arith, common_steps)

pub returns-in_err-b : goal.returns-in_err-b
unfolding read_event
returns-in_err-b c = grind (arith, common_steps)

pub returns-then-self-eq0 : goal.returns-then-self-eq0
unfolding read_event by_status
returns-then-self-eq0 c =
    rw (
      sym c.number_at.ensures ∙ c.in_ok-delta.ensures.ok_part,
      sym c.in_ok-b.ensures,
      lt-ltb c.in_ok-b.b 0x80 c.if-b-lt128.true,
      eq-eqb _ _ c.if-self-eq0.true,
    )

pub returns-then-b-lt128 : goal.returns-then-b-lt128
unfolding read_event by_status
returns-then-b-lt128 c =
    rw (
      sym c.number_at.ensures ∙ c.in_ok-delta.ensures.ok_part,
      sym c.in_ok-b.ensures,
      lt-ltb c.in_ok-b.b 0x80 c.if-b-lt128.true,
      ne_eqb _ _ c.if-self-eq0.false,
      ← c.from.ensures,
    )
    c.read_message.ensures

pub returns-then-b-lt240 : goal.returns-then-b-lt240
unfolding read_event by_status
returns-then-b-lt240 c =
    rw (
      sym c.number_at.ensures ∙ c.in_ok-delta.ensures.ok_part,
      sym c.in_ok-b.ensures,
      le-ltb c.in_ok-b.b 0x80 c.if-b-lt128.false,
      lt-ltb c.in_ok-b.b 0xF0 c.if-b-lt240.true,
      ← c.from.ensures,
    )
    c.read_message-then-b-lt240.ensures

pub returns-then-b-eq255 : goal.returns-then-b-eq255
unfolding read_event by_status
returns-then-b-eq255 c =
    rw (
      sym c.number_at.ensures ∙ c.in_ok-delta.ensures.ok_part,
      sym c.in_ok-b.ensures,
      le-ltb c.in_ok-b.b 0x80 c.if-b-lt128.false,
      le-ltb c.in_ok-b.b 0xF0 c.if-b-lt240.false,
      eq-eqb _ _ c.if-b-eq255.true,
      ← c.from.ensures,
    )
    c.read_meta.ensures

pub returns-then-is_exclusive : goal.returns-then-is_exclusive
unfolding read_event by_status
returns-then-is_exclusive c =
    rw (
      sym c.number_at.ensures ∙ c.in_ok-delta.ensures.ok_part,
      sym c.in_ok-b.ensures,
      le-ltb c.in_ok-b.b 0x80 c.if-b-lt128.false,
      le-ltb c.in_ok-b.b 0xF0 c.if-b-lt240.false,
      ne_eqb _ _ c.if-b-eq255.false,
      sym c.if-is_exclusive.ensures,
      ← c.from.ensures,
    )
    c.skip.ensures

pub returns : goal.returns
unfolding read_event by_status
returns c =
    rw (
      sym c.number_at.ensures ∙ c.in_ok-delta.ensures.ok_part,
      sym c.in_ok-b.ensures,
      le-ltb c.in_ok-b.b 0x80 c.if-b-lt128.false,
      le-ltb c.in_ok-b.b 0xF0 c.if-b-lt240.false,
      ne_eqb _ _ c.if-b-eq255.false,
      sym c.if-is_exclusive.ensures,
    )
