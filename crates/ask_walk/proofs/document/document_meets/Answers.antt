use Rattle.ask_walk.proofs.Here.{phrase_told, ordered_told, unordered_told}
use Rattle.ask_walk.proofs.document.document_meets.Goals as goal

pub returns-in-Phrase : goal.returns-in-Phrase
returns-in-Phrase c own ns u some stand =
    rw c.in-Phrase.is
    (phrase_told _ _ _ _ _ own ns stand _ _ u some c.open_names.ensures c.phrase_here.ensures)

pub returns-in-Ordered : goal.returns-in-Ordered
returns-in-Ordered c own ns u some stand =
    rw c.in-Ordered.is
    (ordered_told _ _ _ _ _ own ns stand _ _ u some c.open_names-in-Ordered.ensures _ c.ordered_here.ensures)

pub returns-in-Unordered : goal.returns-in-Unordered
returns-in-Unordered c own ns u some stand =
    rw c.in-Unordered.is
    (unordered_told _ _ _ _ _ own ns stand _ _ u some c.open_terms.ensures _ c.unordered_here.ensures)
