-- A short document is read at once; every other number by number.
use Rattle.read_cursors.proofs.QuickSteps.{sure_document}
use Rattle.read_cursors.proofs.documents.read_document.Goals as goal

pub returns-in-Some : goal.returns-in-Some
returns-in-Some c = sure_document c.args.meta.now _ c.short_document.ensures c.in-Some.is
