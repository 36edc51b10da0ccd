-- What each of the search's calls ensures is what the question is answered.
use Rattle.claim_joint.proofs.Claimed.{put_phrase, put_near, put_two}
use Rattle.claim_joint.proofs.ask.ask.Goals as goal

pub returns-in-Phrase : goal.returns-in-Phrase
returns-in-Phrase c = rw c.in-Phrase.is (put_phrase c.phrase_match_strs.ensures)

pub returns-in-Near : goal.returns-in-Near
returns-in-Near c =
    rw c.in-Near.is (put_near _ _ c.near_match_terms_strs.ensures)

pub returns-in-Two : goal.returns-in-Two
returns-in-Two c = rw c.in-Two.is (put_two c.near_match.ensures)
