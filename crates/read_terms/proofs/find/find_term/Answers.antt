use Rattle.std.specs.Prelude.{Some}
use mathlib.Core.Path.{sym, ◌∙◌}
use Rattle.common.proofs.Loops.{true_false}
use Rattle.read_open.specs.Steps.{cut, Located}
use Rattle.read_terms.proofs.Finding.{found_list, found_none, found_outside}
use Rattle.read_terms.proofs.find.find_term.Goals as goal
use Rattle.read_terms.proofs.find.find_term.Goals.{In_ok-i}

located : (k : In_ok-i) → let a = k.args in let sections = cut a.bytes.now a.at in
    Located sections.directory sections.names a.at.terms a.name.now (Some k.in_ok-i.i)
located k = rw k.in_ok-i.was at k.term_entry.ensures

pub returns-in_err-i : goal.returns-in_err-i
returns-in_err-i c = rw c.from_residual.ensures (found_none (rw c.in_err-i.was at c.term_entry.ensures))

pub list_outside-requires : goal.list_outside-requires
list_outside-requires c = (c.requires, (located c).0)

pub returns-then-list_outside : goal.returns-then-list_outside
returns-then-list_outside c =
    found_outside c.args.name.now _ (located (goal.at.returns-then-list_outside c).In_ok-i).0
    (λ q. true_false (sym c.if-list_outside.true ∙ c.list_outside.ensures.1 q))

pub entry_list-requires : goal.entry_list-requires
entry_list-requires c =
    record {
      fits = c.requires;
      below = (located (goal.at.entry_list-requires c).In_ok-i).0;
      list = c.list_outside.ensures.0 c.if-list_outside.false;
    }

pub returns : goal.returns
returns c = found_list (located (goal.at.returns c).In_ok-i) c.entry_list.ensures
