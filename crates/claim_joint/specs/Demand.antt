-- Demand 3: one claim across writer and search, for all the writer's inputs and all the questions that it names. Nothing here names what
-- the writer or the search computes: only what is handed in, document 01's format, and the rules in words.
use Rattle.std.specs.Prelude.{Err, Ok, ℕ, ◌≤◌, ◌≡◌, List, [], ◌∷◌, ◌++◌, map, ◌↔◌, length, take, drop}
use Rattle.segment.specs.Results.{Answer}
use Rattle.utf8.specs.Utf8.{IsUtf8}
use Rattle.segment.specs.declared.refusal.Refusal.{Refusal}
use Rattle.segment.specs.Texts.{names}
use Rattle.segment.specs.Opening.{open_segment}
use Rattle.calls.specs.Given.{Lists, given, laid_flat}
use Rattle.calls.specs.Acceptance.{ListsFine}
use Rattle.segment.specs.Contents.{decode_segment}
use Rattle.common.specs.Elements.{◌∈◌, Rising}
use Rattle.rules.specs.declared.rule.Rule.{Rule}
use Rattle.rules.specs.declared.rule.Rule.TheVariants.{Phrase, Unordered}
use Rattle.rules.specs.Kinds.{Meets, Enough, near_rule}
use Rattle.calls.specs.Questions.{WellFormed}
use Rattle.claim_joint.specs.declared.ask.Question.{Question}
use Rattle.claim_joint.specs.declared.ask.Question.TheVariants as question
use Rattle.claim_joint.specs.declared.ask.Asked.{Asked}
use Rattle.claim_joint.specs.Own.{own}
use Rattle.calls.specs.Sizes.{segment_size}
use Rattle.segment.specs.Counts.{position_counts_of}

-- document 01 names no refusal for what is handed in: none for the lists (crate calls, specs/Acceptance.antt), and there is room
pub record NoRefusal (l : Lists) (room : ℕ) : Type 0 where
  pub lists : ListsFine l
  pub room_enough : segment_size l ≤ room

-- n bytes were written, as many as document 01's format takes: they open and decode to what was handed in, in its order; laid flat that is
-- the eight lists; the position counts that stand in the bytes add up to the number of positions (steps) handed in; and the slice's other
-- places are as they were
pub record GivenBack (l : Lists) (out : List ℕ) (n : ℕ) (out' : List ℕ) : Type 0 where
  pub size : n ≡ segment_size l
  pub fits : n ≤ length out
  pub back : decode_segment (take n out') ≡ Ok (given l)
  pub flat : laid_flat (given l) ≡ l
  pub counted : position_counts_of (open_segment (take n out')) ≡ length l.positions
  pub rest : drop n out' ≡ drop n out

-- the ids of the documents handed in whose own positions meet the question, ascending and without repeats
pub record ThoseThatMeet (l : Lists) (rule : Rule) (ns : List (List ℕ)) (ids : List ℕ) : Type 0 where
  pub only : (d : ℕ) → d ∈ ids → (d ∈ map (λ x. x.id) (given l).documents) × Meets rule (own l d) ns
  pub every : (d : ℕ) → d ∈ map (λ x. x.id) (given l).documents → Meets rule (own l d) ns → d ∈ ids
  pub rising : Rising ids

-- the search does not refuse: it answers their number, and they fill that many first places of the buffer
pub record Listed (l : Lists) (rule : Rule) (ns : List (List ℕ)) (found : List ℕ) (r : Answer ℕ) (found' : List ℕ) : Type 0 where
  pub there_are : (ids : List ℕ) × ThoseThatMeet l rule ns ids
  pub answer : (ids : List ℕ) → ThoseThatMeet l rule ns ids → length ids ≤ length found
      → (r ≡ Ok (length ids)) × (found' ≡ ids ++ drop (length ids) found)

-- ---- the claim of a call that writes and then asks exactly the bytes written

-- the writer's refusal; or so many bytes written, and the search's answer
abbrev pub not_written : Refusal → Answer Asked
not_written x = Err x

abbrev pub answered : ℕ → Answer ℕ → Answer Asked
answered n c = Ok (record { written = n; answer = c })

-- written, n bytes long, and asked
abbrev pub AnsweredBy : Answer Asked → Type 0
AnsweredBy r = (n : ℕ) × (c : Answer ℕ) × (r ≡ answered n c)

-- `Proper`: the question is one that demand 3 names
pub record Demand3 (l : Lists) (out : List ℕ) (rule : Rule) (ns : List (List ℕ)) (Proper : Type 0) (found : List ℕ)
    (r : Answer Asked) (out' found' : List ℕ) : Type 0 where
  -- the writer accepts exactly when document 01 names no refusal, and a refusal changes no lent place
  pub accepts : AnsweredBy r ↔ NoRefusal l (length out)
  pub refuses : (x : Refusal) → r ≡ not_written x → (out' ≡ out) × (found' ≡ found)
  -- a search that refuses, as it may a question that demand 3 does not name, leaves its buffer
  pub search_refuses : (n : ℕ) (x : Refusal) → r ≡ answered n (Err x) → found' ≡ found
  -- the bytes give back what was handed in
  pub gives_back : (n : ℕ) (c : Answer ℕ) → r ≡ answered n c → GivenBack l out n out'
  -- the search does not refuse, and lists exactly the documents whose own positions meet the question
  pub lists : (n : ℕ) (c : Answer ℕ) → r ≡ answered n c → Proper → Listed l rule ns found c found'

-- names in one text: well-formed, and enough of them
pub record ProperText (rule : Rule) (text ends : List ℕ) : Type 0 where
  pub well_formed : WellFormed text ends
  pub enough : Enough rule (length ends)

-- two names (near_match)
pub record ProperTwo (window : ℕ) (a b : List ℕ) : Type 0 where
  pub small_a : length a ≤ 16777216
  pub small_b : length b ≤ 16777216
  pub text_a : IsUtf8 a
  pub text_b : IsUtf8 b
  pub some_window : 1 ≤ window

-- ---- the questions that a call can put

abbrev pub rule_of : Question → Rule
rule_of question.Phrase = Phrase
rule_of (question.Near window ordered) = near_rule ordered window
rule_of (question.Two window) = Unordered window

-- names in one text, or two names
abbrev pub names_of : Question → (name ends other : List ℕ) → List (List ℕ)
names_of question.Phrase name ends other = names 0 ends name
names_of (question.Near window ordered) name ends other = names 0 ends name
names_of (question.Two window) name ends other = name ∷ other ∷ []

-- a question that demand 3 names
abbrev pub Proper : Question → (name ends other : List ℕ) → Type 0
Proper question.Phrase name ends other = ProperText Phrase name ends
Proper (question.Near window ordered) name ends other = ProperText (near_rule ordered window) name ends
Proper (question.Two window) name ends other = ProperTwo window name other
