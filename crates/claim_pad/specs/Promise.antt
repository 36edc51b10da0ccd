-- What writing a pad out and then asking a phrase promises: the claim, and beside it the promises of the two calls, one after the other,
-- for every outcome.
use Rattle.std.specs.Prelude.{Err, Ok, ℕ, ◌≤◌, ◌≡◌, List, ◌↔◌, length, take, drop}
use Rattle.segment.specs.Results.{Answer}
use Rattle.segment.specs.Contents.{decode_segment}
use Rattle.segment.specs.Texts.{names}
use Rattle.segment.specs.declared.refusal.Refusal.{Refusal}
use Rattle.rules.specs.declared.rule.Rule.TheVariants.{Phrase}
use Rattle.calls.specs.Sizes.{segment_size}
use Rattle.ask_search.specs.Promise.{TextAnswered}
use Rattle.claim_joint.specs.declared.ask.Asked.{Asked}
use Rattle.claim_joint.specs.Demand.{answered, not_written, AnsweredBy, ProperText}
use Rattle.pad_map.specs.Acts.{given_of}
use Rattle.pad_words.specs.Words.{held}
use Rattle.pad_write.specs.Promise.{PadWritten}
use Rattle.claim_pad.specs.Phrases.{BarsListed}
use Rattle.claim_pad.specs.Written.{map_lists, PadWritable}

-- `text` and `ends` are the names of the 128 sounds, `name` and `name_ends` those of the phrase
pub record BarsFound (pad text ends out name name_ends found : List ℕ) (r : Answer Asked) (out' found' : List ℕ) : Type 0 where
  -- written exactly when document 02 names no refusal, and a refusal changes no lent place
  pub accepts : AnsweredBy r ↔ PadWritable pad text ends (length out)
  pub refuses : (x : Refusal) → r ≡ not_written x → (out' ≡ out) × (found' ≡ found)
  -- a search that refuses leaves its buffer
  pub search_refuses : (n : ℕ) (x : Refusal) → r ≡ answered n (Err x) → found' ≡ found
  -- as many bytes as document 01's format takes for the bars held; they give these back, and the slice's other places are as they were
  pub gives_back : (n : ℕ) (c : Answer ℕ) → r ≡ answered n c
      → (n ≡ segment_size (map_lists pad text ends)) × (n ≤ length out)
      × (decode_segment (take n out') ≡ Ok (given_of (names 0 ends text) (held pad))) × (drop n out' ≡ drop n out)
  -- the search does not refuse a proper phrase, and lists exactly the bars held whose own hits meet it
  pub lists : (n : ℕ) (c : Answer ℕ) → r ≡ answered n c → ProperText Phrase name name_ends
      → BarsListed (held pad) (names 0 ends text) (names 0 name_ends name) found c found'

-- the writer's refusal is handed on, and nothing is asked; else exactly the bytes written are asked
abbrev pub Called : (pad text ends out name name_ends found : List ℕ) → Answer Asked → (out' found' : List ℕ) → Type 0
Called pad text ends out name name_ends found (Err x) out' found' =
    PadWritten pad text ends out (Err x) out' × (found' ≡ found)
Called pad text ends out name name_ends found (Ok a) out' found' =
    PadWritten pad text ends out (Ok a.written) out' × TextAnswered (take a.written out') Phrase name name_ends found a.answer found'

pub record PadWrittenThenAsked (pad text ends out name name_ends found : List ℕ) (r : Answer Asked) (out' found' : List ℕ) : Type 0 where
  pub claim : BarsFound pad text ends out name name_ends found r out' found'
  pub called : Called pad text ends out name name_ends found r out' found'
