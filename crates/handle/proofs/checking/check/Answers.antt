use mathlib.Core.Path.{◌∙◌}
use Rattle.handle.proofs.Handles.{check_shut, check_refused, check_accepted}
use Rattle.handle.proofs.checking.check.Goals as goal

pub returns-in-Err : goal.returns-in-Err
returns-in-Err c = c.refused.ensures ∙ check_shut _ c.in-Err.ensures

pub returns-in-Ok-decode_all : goal.returns-in-Ok-decode_all
returns-in-Ok-decode_all c =
    let o = c.in-Ok.ensures in
    c.accepted.ensures ∙ check_accepted _ o (c.in-Ok-decode_all.ensures o.0 o.2)

pub returns-in-Err-decode_all : goal.returns-in-Err-decode_all
returns-in-Err-decode_all c =
    let o = c.in-Ok.ensures in
    c.refused-in-Err-decode_all.ensures ∙ check_refused _ o (c.in-Err-decode_all.ensures o.0 o.2)
