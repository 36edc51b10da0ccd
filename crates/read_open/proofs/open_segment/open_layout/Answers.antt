use Rattle.std.proofs.lemmas.Result.{err_from_is_err_and}
use Rattle.std.specs.Prelude.{Ok}
use mathlib.Core.Path.{◌≡◌, sym, ◌∙◌}
use Rattle.segment.specs.Opening.{sections}
use Rattle.read_open.specs.Layouts.{layout_in}
use Rattle.read_open.specs.Steps.{SectionsFollow, cut}
use Rattle.read_open.proofs.Sections.{of_refusal, of_layout, layout_order, layout_numbers}
use Rattle.read_open.proofs.Openings.{no_sections, bad_checksum, bad_contents, opens}
use Rattle.read_open.proofs.open_segment.open_layout.Goals as goal
use Rattle.read_open.proofs.open_segment.open_layout.Goals.{In_ok-at}

-- What a layout that was read shows
cuts : (c : In_ok-at) → sections c.args.bytes.now ≡ Ok (cut c.args.bytes.now c.in_ok-at.at)
cuts c = of_layout c.read_header.ensures c.in_ok-at.was

ordered : (c : In_ok-at) → SectionsFollow c.args.bytes.now c.in_ok-at.at
ordered c = layout_order c.read_header.ensures c.in_ok-at.was

numbered : (c : In_ok-at) → c.in_ok-at.at ≡ layout_in c.args.bytes.now
numbered c = layout_numbers c.read_header.ensures c.in_ok-at.was

pub returns-in_err-at : goal.returns-in_err-at
returns-in_err-at c =
    let p = err_from_is_err_and c.from_residual.result c.from_residual.ensures.1 in
    rw (p.1, p.2) (no_sections _ (of_refusal c.read_header.ensures c.in_err-at.was))

pub check_sections-requires : goal.check_sections-requires
check_sections-requires c = ordered c

pub returns-in_err-check_sections : goal.returns-in_err-check_sections
returns-in_err-check_sections c =
    let p = err_from_is_err_and c.from_residual-in_err-check_sections.result c.from_residual-in_err-check_sections.ensures.1 in
    rw (p.1, p.2)
    (bad_checksum _ c.in_ok-at.at (cuts (goal.at.returns-in_err-check_sections c).In_ok-at)
    (sym c.in_err-check_sections.was ∙ c.check_sections.ensures))

pub check_contents-requires : goal.check_contents-requires
check_contents-requires c = ordered (goal.at.check_contents-requires c).In_ok-at

pub returns-in_err-check_contents : goal.returns-in_err-check_contents
returns-in_err-check_contents c =
    let p = err_from_is_err_and c.from_residual-in_err-check_contents.result c.from_residual-in_err-check_contents.ensures.1 in
    rw (p.1, p.2)
    (bad_contents _ c.in_ok-at.at (cuts (goal.at.returns-in_err-check_contents c).In_ok-at)
    (sym c.in_ok-check_sections.was ∙ c.check_sections.ensures) (sym c.in_err-check_contents.was ∙ c.check_contents.ensures))

pub returns : goal.returns
returns c =
    let g = (goal.at.returns c).In_ok-at in
    opens _ _ (cuts g) (sym c.in_ok-check_sections.was ∙ c.check_sections.ensures) (ordered g) (numbered g)
    (sym c.in_ok-check_contents.was ∙ c.check_contents.ensures)
