use Rattle.std.specs.Prelude.{Ok}
use Rattle.std.proofs.lemmas.Result.{err_from_is_err_and}
use mathlib.Core.Path.{◌≡◌, sym, ◌∙◌}
use native.Mathlib.Omega.{arith}
use Rattle.read_lists.specs.Steps.{tallied_in}
use Rattle.read_open.specs.Steps.{cut}
use Rattle.read_terms.specs.Steps.{list_entry}
use Rattle.segment.specs.Records.{between}
use Rattle.segment.specs.Postings.{decode}
use Rattle.show_columns.proofs.Names.{name_most}
use Rattle.show_listing.proofs.Texts.{name_between}
use Rattle.read_terms.proofs.Finding.{own_entry}
use Rattle.show_sheet.specs.Steps.{documents_in}
use Rattle.show_sheet.proofs.Entries.{line_refused, line_silent, line_measured}
use Rattle.show_sheet.proofs.sheet.line_len.Goals as goal
use Rattle.show_sheet.proofs.sheet.line_len.Goals.{In_ok-decode_postings_for}

-- how many hits the bar has in the list
told : (h : In_ok-decode_postings_for) → let a = h.args in
    Ok h.in_ok-decode_postings_for.field-0
    ≡ tallied_in a.bar.id.0 (decode (documents_in a.bytes.now a.at) (list_entry a.bytes.now h.entry_list-list.result))
told h = sym h.in_ok-decode_postings_for.was ∙ h.decode_postings_for.ensures

pub entry_list-list-requires : goal.entry_list-list-requires
entry_list-list-requires c = own_entry c.requires.0.opened c.args.i c.requires.1

pub returns-in_err-decode_postings_for : goal.returns-in_err-decode_postings_for
returns-in_err-decode_postings_for c =
    let p = err_from_is_err_and c.from_residual.result c.from_residual.ensures.1 in
    rw (p.1, p.2)
    (line_refused _ _ _ _ c.requires.0 c.requires.1 c.entry_list-list.ensures
    (sym c.in_err-decode_postings_for.was ∙ c.decode_postings_for.ensures))

pub returns-then-branch-eq0 : goal.returns-then-branch-eq0
returns-then-branch-eq0 c =
    line_silent _ _ _ _ c.requires.0 c.requires.1 c.entry_list-list.ensures
    (told (goal.at.returns-then-branch-eq0 c).In_ok-decode_postings_for) c.if-branch-eq0.true

pub overflow_add-result : goal.overflow_add-result
overflow_add-result c =
    let r = c.entry_name-name.result in
    omega (arith, c.name_len.ensures, name_most 12 (between r.start r.end (cut c.args.bytes.now c.args.at).names))

pub returns : goal.returns
returns c =
    let a = c.args in
    line_measured _ _ _ _ c.requires.0 c.requires.1 c.entry_list-list.ensures (told (goal.at.returns c).In_ok-decode_postings_for)
    c.if-branch-eq0.false
    (name_between (cut a.bytes.now a.at).directory (cut a.bytes.now a.at).names a.i c.entry_name-name.ensures)
    c.name_len.ensures
