use Rattle.std.proofs.lemmas.Result.{err_from_is_err_and}
use Rattle.std.specs.Prelude.{Ok}
use mathlib.Core.Path.{◌≡◌}
use Rattle.read_open.proofs.Sections.{told, refused, directory_end, names_end, metadata_end, lists_end, no_directory, no_names}
use Rattle.read_open.proofs.Sections.{no_metadata, no_lists, bytes_left, all_cut}
use Rattle.read_open.proofs.header.read_ranges.Goals as goal
use Rattle.read_open.proofs.header.read_ranges.Goals.{In_ok-names, In_ok-metadata, In_ok-lists, In_ok-end}

-- the ends that are found
one : (c : In_ok-names) → directory_end c.args.bytes.now ≡ Ok c.in_ok-names.names
one c = told _ _ _ c.read_usize_at.ensures c.checked_range.ensures c.in_ok-names.was

two : (c : In_ok-metadata) → names_end c.args.bytes.now c.in_ok-names.names ≡ Ok c.in_ok-metadata.metadata
two c = told _ _ _ c.read_usize_at-2.ensures c.checked_range-2.ensures c.in_ok-metadata.was

three : (c : In_ok-lists) → metadata_end c.args.bytes.now c.in_ok-metadata.metadata ≡ Ok c.in_ok-lists.lists
three c = told _ _ _ c.read_usize_at-3.ensures c.checked_range-3.ensures c.in_ok-lists.was

four : (c : In_ok-end) → lists_end c.args.bytes.now c.in_ok-lists.lists ≡ Ok c.in_ok-end.end
four c = told _ _ _ c.read_usize_at-4.ensures c.checked_range-4.ensures c.in_ok-end.was

pub returns-in_err-names : goal.returns-in_err-names
returns-in_err-names c =
    let p = err_from_is_err_and c.from_residual.result c.from_residual.ensures.1 in
    rw (p.1, p.2)
    (refused (no_directory _ (told _ _ _ c.read_usize_at.ensures c.checked_range.ensures c.in_err-names.was)))

pub returns-in_err-metadata : goal.returns-in_err-metadata
returns-in_err-metadata c =
    let g = goal.at.returns-in_err-metadata c in
    let p = err_from_is_err_and c.from_residual-in_err-metadata.result c.from_residual-in_err-metadata.ensures.1 in
    rw (p.1, p.2)
    (refused
    (no_names c.args.bytes.now (one g.In_ok-names) (told _ _ _ c.read_usize_at-2.ensures c.checked_range-2.ensures c.in_err-metadata.was)))

pub returns-in_err-lists : goal.returns-in_err-lists
returns-in_err-lists c =
    let g = goal.at.returns-in_err-lists c in
    let p = err_from_is_err_and c.from_residual-in_err-lists.result c.from_residual-in_err-lists.ensures.1 in
    rw (p.1, p.2)
    (refused
    (no_metadata c.args.bytes.now (one g.In_ok-names) (two g.In_ok-metadata)
    (told _ _ _ c.read_usize_at-3.ensures c.checked_range-3.ensures c.in_err-lists.was)))

pub returns-in_err-end : goal.returns-in_err-end
returns-in_err-end c =
    let g = goal.at.returns-in_err-end c in
    let p = err_from_is_err_and c.from_residual-in_err-end.result c.from_residual-in_err-end.ensures.1 in
    rw (p.1, p.2)
    (refused
    (no_lists c.args.bytes.now (one g.In_ok-names) (two g.In_ok-metadata) (three g.In_ok-lists)
    (told _ _ _ c.read_usize_at-4.ensures c.checked_range-4.ensures c.in_err-end.was)))

pub returns-then-end-whole : goal.returns-then-end-whole
returns-then-end-whole c =
    let g = goal.at.returns-then-end-whole c in
    refused
    (bytes_left c.args.bytes.now (one g.In_ok-names) (two g.In_ok-metadata) (three g.In_ok-lists) (four g.In_ok-end) c.if-end-whole.true)

pub returns : goal.returns
returns c =
    let g = goal.at.returns c in
    all_cut c.args.bytes.now (one g.In_ok-names) (two g.In_ok-metadata) (three g.In_ok-lists) (four g.In_ok-end) c.if-end-whole.false
    c.read_u32_at.ensures c.read_u32_at-2.ensures
