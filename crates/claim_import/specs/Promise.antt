-- What importing, writing and then asking promises: the claim, and beside it the promises of the calls, one after the other, for every
-- outcome.
use Rattle.claim_import.specs.Phrases.{import_asked, not_imported, ImportedExactly, PhraseAnswered}
use Rattle.segment.specs.Results.{Answer}
use Rattle.std.specs.Prelude.{Err, Ok, ℕ, ◌≡◌, List, length}
use Rattle.segment.specs.declared.refusal.Refusal.{Refusal}
use Rattle.segment.specs.declared.replies.ListTotals.{ListTotals}
use Rattle.calls.specs.Given.{Lists}
use Rattle.midi_bars.specs.Loudness.{AllLists}
use Rattle.midi_bars.specs.Imports.{import_into, import_left}
use Rattle.claim_joint.specs.declared.ask.Asked.{Asked}
use Rattle.claim_joint.specs.declared.ask.Question.TheVariants as question
use Rattle.claim_joint.specs.Promise.{WrittenThenAsked}
use Rattle.claim_import.specs.declared.ask.ImportAsked.{ImportAsked}

-- how many documents (bars), terms (sounds), postings and positions
abbrev pub totals_of : Lists → ListTotals
totals_of l = record {
  documents = length l.ids;
  terms = length l.ends;
  postings = length l.posting_ids;
  positions = length l.positions;
}

-- `b` are the nine lent buffers, `name` and `ends` the names of the phrase in one text with its ends
pub record ImportedThenAsked (steps quarter : ℕ) (file : List ℕ) (b : AllLists) (out name ends found : List ℕ)
    (r : Answer ImportAsked) (b' : AllLists) (out' found' : List ℕ) : Type 0 where
  -- a file within the rules, and no other, is imported where its lists fit
  pub accepts : ImportedExactly steps quarter file b r
  -- with room, a proper phrase lists exactly the bars in which the file's own notes meet it
  pub claim : PhraseAnswered steps quarter file b out name ends found r found'
  -- the importer's refusal is handed on, nothing is written or asked, and no lent place is changed
  pub refused : (x : Refusal) → import_into steps quarter file b ≡ Err x
      → (r ≡ not_imported x) × (b' ≡ b) × (out' ≡ out) × (found' ≡ found)
  -- else the lists are at the fronts of the buffers, and exactly the eight that the writer takes are written and asked
  pub imported : (l : AllLists) → import_into steps quarter file b ≡ Ok l
      → (a : Answer Asked) × (r ≡ import_asked (totals_of l.lists) a) × (b' ≡ import_left (Ok l) b)
      × WrittenThenAsked l.lists out question.Phrase name ends name found a out' found'
