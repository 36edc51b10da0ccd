use mathlib.Core.Path.{sym, ◌∙◌}
use Rattle.read_terms.proofs.Asking.{name_large, name_not_text, name_fine}
use Rattle.read_terms.proofs.terms.check_name.Goals as goal

pub returns-then-name-gt-LIMIT : goal.returns-then-name-gt-LIMIT
returns-then-name-gt-LIMIT c =
    name_large _ c.if-name-gt-LIMIT.true

pub returns-then-not-is_utf8 : goal.returns-then-not-is_utf8
returns-then-not-is_utf8 c =
    name_not_text _ c.if-name-gt-LIMIT.false (sym c.is_utf8.ensures ∙ c.if-not-is_utf8.true)

pub returns : goal.returns
returns c = name_fine _ c.if-name-gt-LIMIT.false (sym c.is_utf8.ensures ∙ c.if-not-is_utf8.false)
