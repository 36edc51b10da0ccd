-- Where all is short the cursor is advanced at once, else number by number.
use Rattle.read_cursors.proofs.QuickSteps.{sure_posting}
use Rattle.read_cursors.proofs.postings.Postings.advance.Goals as goal

pub returns-in-Some : goal.returns-in-Some
returns-in-Some c = sure_posting c.args.bytes.now _ c.advance_short.ensures c.in-Some.is
