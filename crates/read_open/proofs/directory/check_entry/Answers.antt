use Rattle.std.proofs.lemmas.Result.{err_from_is_err_and}
use mathlib.Core.Path.{◌≡◌, sym, ◌∙◌}
use mathlib.Core.Bool.{true}
use Rattle.utf8.specs.Utf8.{utf8}
use Rattle.segment.specs.Records.{field, between}
use Rattle.read_open.specs.Steps.{InNames, follows_name}
use Rattle.read_open.proofs.Checks.{name_inside, name_lost, not_text, no_bytes, not_after, bad_list, all_fine, refused_entry}
use Rattle.read_open.proofs.directory.check_entry.Goals as goal
use Rattle.read_open.proofs.directory.check_entry.Goals.{Else-not-follows, Else-not-is_utf8, In_ok-end}

-- where the name begins, how long it is, and that it lies in the names
starts : (c : In_ok-end) → c.long-start.result ≡ field 4 0 c.args.entry.now
starts c = c.long-start.ensures ∙ c.read_u32_at.ensures

sized : (c : In_ok-end) → c.long-size.result ≡ field 4 4 c.args.entry.now
sized c = c.long-size.ensures ∙ c.read_u32_at-2.ensures

inside : (c : In_ok-end) → InNames (record { start = c.long-start.result; end = c.in_ok-end.end }) c.args.names.now
inside c = name_inside c.args.entry.now c.args.names.now (starts c) (sized c) c.checked_range.ensures c.in_ok-end.was

text : (c : Else-not-is_utf8) → utf8 (between c.long-start.result c.in_ok-end.end c.args.names.now) ≡ true
text c = sym c.is_utf8.ensures ∙ c.if-not-is_utf8.false

after : (c : Else-not-follows)
    → follows_name c.args.names.now c.args.previous (between c.long-start.result c.in_ok-end.end c.args.names.now) ≡ true
after c = sym c.follows.ensures ∙ c.if-not-follows.false

pub returns-in_err-end : goal.returns-in_err-end
returns-in_err-end c =
    let p = err_from_is_err_and c.from_residual.result c.from_residual.ensures.1 in
    rw (p.1, p.2)
    (refused_entry
    (name_lost _ _ (c.long-start.ensures ∙ c.read_u32_at.ensures) (c.long-size.ensures ∙ c.read_u32_at-2.ensures) c.checked_range.ensures _ _
    c.in_err-end.was))

pub returns-then-not-is_utf8 : goal.returns-then-not-is_utf8
returns-then-not-is_utf8 c =
    let g = (goal.at.returns-then-not-is_utf8 c).In_ok-end in
    refused_entry
    (not_text _ _ (starts g) (sized g) c.checked_range.ensures _ _ c.in_ok-end.was (sym c.is_utf8.ensures ∙ c.if-not-is_utf8.true))

pub returns-then-start-end : goal.returns-then-start-end
returns-then-start-end c =
    let g = goal.at.returns-then-start-end c in
    let h = g.In_ok-end in
    refused_entry
    (no_bytes _ _ (starts h) (sized h) c.checked_range.ensures _ _ c.in_ok-end.was (text g.Else-not-is_utf8) c.if-start-end.true)

pub returns-then-not-follows : goal.returns-then-not-follows
returns-then-not-follows c =
    let g = goal.at.returns-then-not-follows c in
    let h = g.In_ok-end in
    refused_entry
    (not_after _ _ (starts h) (sized h) c.checked_range.ensures _ _ c.in_ok-end.was (text g.Else-not-is_utf8) c.if-start-end.false
    (sym c.follows.ensures ∙ c.if-not-follows.true))

pub returns-in_err-check_list : goal.returns-in_err-check_list
returns-in_err-check_list c =
    let g = goal.at.returns-in_err-check_list c in
    let h = g.In_ok-end in
    let p = err_from_is_err_and c.from_residual-in_err-check_list.result c.from_residual-in_err-check_list.ensures.1 in
    rw (p.1, p.2)
    (refused_entry
    (bad_list _ _ (starts h) (sized h) c.checked_range.ensures _ _ c.in_ok-end.was (text g.Else-not-is_utf8) c.if-start-end.false
    (after g.Else-not-follows) (sym c.in_err-check_list.was ∙ c.check_list.ensures)))

pub returns : goal.returns
returns c =
    let g = goal.at.returns c in
    let h = g.In_ok-end in
    record {
      reads =
          all_fine _ _ (starts h) (sized h) c.checked_range.ensures _ _ c.in_ok-end.was (text g.Else-not-is_utf8) c.if-start-end.false
          (after g.Else-not-follows) (sym c.in_ok-check_list.was ∙ c.check_list.ensures);
      stays = inside h;
    }
