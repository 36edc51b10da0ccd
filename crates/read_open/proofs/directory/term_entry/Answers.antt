use Rattle.common.proofs.Loops.{true_false}
use mathlib.Core.Path.{sym, ◌∙◌}
use native.Mathlib.Omega.{arith}
use Rattle.segment.proofs.Strings.{same_is, equal_is}
use Rattle.read_open.proofs.Lookup.{before_more, after_more, nowhere}
use Rattle.read_open.proofs.directory.term_entry.Goals as goal

pub loop-low-init : goal.loop-low-init
loop-low-init c = (omega arith, λ sorted. (λ k h. absurd (omega arith), λ k h i. absurd (omega arith)))

pub returns-then-entry_outside : goal.returns-then-entry_outside
returns-then-entry_outside c = λ sorted. true_false (sym c.if-entry_outside.true ∙ c.entry_outside.ensures.1 (sorted.inside _ (omega arith)))

pub compare_entry-requires : goal.compare_entry-requires
compare_entry-requires c = c.entry_outside.ensures.0 c.if-entry_outside.false

pub loop-low-preserved-in-Less : goal.loop-low-preserved-in-Less
loop-low-preserved-in-Less c = (
  c.loop-low.invariant.0,
  λ sorted. (
    before_more _ _ _ _ sorted _ (omega arith) (sym c.in-Less.is ∙ c.compare_entry.ensures),
    (c.loop-low.invariant.1 sorted).1,
  ),
)

pub returns-in-Equal : goal.returns-in-Equal
returns-in-Equal c = (
  omega arith,
  (same_is _ _).0 (equal_is _ _ (sym c.compare_entry.ensures ∙ c.in-Equal.is)).1,
)

pub loop-low-preserved : goal.loop-low-preserved
loop-low-preserved c = (
  omega arith,
  λ sorted. (
    (c.loop-low.invariant.1 sorted).0,
    after_more _ _ _ _ sorted _ (omega arith) (sym c.in-Greater.is ∙ c.compare_entry.ensures),
  ),
)

pub returns : goal.returns
returns c = λ sorted. let i = c.loop-low.invariant.1 sorted in nowhere _ _ _ _ _ _ c.loop-low-test.false i.0 i.1
