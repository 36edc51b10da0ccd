-- What the search answers of a pad that was written: the bars whose own hits meet the phrase.
-- Assumes nothing.
use Rattle.segment.specs.Results.{Answer}
use mathlib.Core.List.{List}
use Prim.Native.Nat.{ℕ, ◌^◌, ◌≤◌}
use lib.ListN.{length}
use Rattle.segment.specs.Texts.{names}
use Rattle.segment.proofs.Shapes.{names_count}
use Rattle.rules.specs.declared.rule.Rule.TheVariants.{Phrase}
use Rattle.calls.proofs.Accepts.{accepted_gives}
use Rattle.roundtrip.specs.Claims.{Below, Typed}
use Rattle.claim_joint.specs.Demand.{Listed, ProperText}
use Rattle.claim_joint.proofs.Demanded.{listed}
use Rattle.pad_words.specs.Words.{held}
use Rattle.claim_pad.specs.Phrases.{BarsListed}
use Rattle.claim_pad.specs.Written.{map_lists}
use Rattle.claim_pad.specs.Claims.{PhraseLists}
use Rattle.claim_pad.proofs.Hits.{bars_agree}
use Rattle.claim_pad.proofs.Typed.{map_typed}
use Rattle.claim_pad.proofs.Writable.{WrittenSo, written_gives}

module _ (pad text ends : List ℕ) (room : ℕ) (bytes : List ℕ) (so : WrittenSo pad text ends room bytes) where
  -- the lists that were written hold what their types can
  pub written_typed : Below (2 ^ 32) pad → Below 256 text → Typed (map_lists pad text ends)
  written_typed low low_text =
      map_typed pad text ends low low_text so.shaped (accepted_gives (map_lists pad text ends) room so.written).lists

  -- the documents that are listed are the bars
  pub bars_listed : (name name_ends : List ℕ) → ProperText Phrase name name_ends → (found : List ℕ) {r : Answer ℕ} {found' : List ℕ}
      → Listed (map_lists pad text ends) Phrase (names 0 name_ends name) found r found'
      → BarsListed (held pad) (names 0 ends text) (names 0 name_ends name) found r found'
  bars_listed name name_ends proper found l =
      let some : 1 ≤ length (names 0 name_ends name) = rw (names_count 0 name_ends name) proper.enough in
      let agree = bars_agree pad text ends so.whole so.shaped (names 0 name_ends name) some in
      record {
        there_are = let (ids, meet) = l.there_are in (ids, (agree ids).0 meet);
        answer = λ ids meet h. l.answer ids ((agree ids).1 meet) h;
      }

pub phrase_lists : PhraseLists
phrase_lists pad text ends room bytes low low_text e name name_ends proper found =
    let so = written_gives pad text ends room e in
    bars_listed pad text ends room bytes so name name_ends proper found
    (listed (map_lists pad text ends) room bytes (written_typed pad text ends room bytes so low low_text) so.written Phrase
    name name_ends proper.well_formed proper.enough found)
