-- What each of the search's calls with a handle ensures, where the handle is the bytes' own, is what the question is answered.
use Rattle.claim_joint.proofs.Claimed.{put_phrase, put_near, put_two}
use Rattle.claim_checked.proofs.ask.ask_with.Goals as goal

pub returns-in-Phrase : goal.returns-in-Phrase
returns-in-Phrase c =
    rw c.in-Phrase.is (λ of. put_phrase (c.phrase_match_strs_checked.ensures.plain of))

pub returns-in-Near : goal.returns-in-Near
returns-in-Near c =
    rw c.in-Near.is (λ of. put_near _ _ (c.near_match_terms_strs_checked.ensures.plain of))

pub returns-in-Two : goal.returns-in-Two
returns-in-Two c =
    rw c.in-Two.is (λ of. put_two (c.near_match_checked.ensures.plain of))
