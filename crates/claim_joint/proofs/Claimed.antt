-- From what the writer and the search answer to the claim about a call that writes and then asks.
-- Assumes nothing.
use Rattle.segment.proofs.Binds.{ok_same}
use Rattle.claim_joint.specs.declared.ask.Asked.{Asked}
use Rattle.claim_joint.specs.Demand.{answered, not_written, NoRefusal, GivenBack, Listed, AnsweredBy, Demand3, rule_of, names_of, Proper}
use Rattle.std.specs.Prelude.{Err, Ok}
use mathlib.Core.Path.{◌≡◌, refl, sym, ap, ◌∙◌, subst}
use mathlib.Core.Bool.{Bool}
use mathlib.Core.List.{List}
use mathlib.Core.Logic.{◌↔◌}
use Prim.Native.Nat.{ℕ, ◌≤◌}
use native.Mathlib.Omega.{arith}
use lib.ListN.{length, take, drop, length-append}
use lib.Seq.{take-append_seam}
use Rattle.segment.specs.declared.refusal.Refusal.{Refusal}
use Rattle.segment.specs.Results.{Answer}
use Rattle.calls.specs.Replies.{fronted, filled, count_of, length_of_written}
use Rattle.calls.specs.Given.{Lists}
use Rattle.calls.specs.Writing.{write}
use Rattle.roundtrip.specs.Claims.{Typed}
use Rattle.write_segment.specs.Promise.{Wrote}
use Rattle.rules.specs.declared.rule.Rule.TheVariants as rule
use Rattle.rules.specs.Kinds.{near_rule}
use Rattle.rules.specs.declared.rule.Rule.{Rule}
use Rattle.rules.specs.declared.rule.Rule.TheVariants.{Phrase}
use Rattle.ask_search.specs.Promise.{TextAnswered, TwoAnswered}
use Rattle.claim_joint.specs.declared.ask.Question.{Question}
use Rattle.claim_joint.specs.declared.ask.Question.TheVariants as question
use Rattle.claim_joint.specs.Promise.{put_to, Put}
use Rattle.claim_joint.proofs.Accepting.{accepts}
use Rattle.claim_joint.proofs.Demanded.{written_back, listed, listed_two}

-- what was written and answered is one thing
pub same_written : {n m : ℕ} {c d : Answer ℕ} → answered n c ≡ answered m d → n ≡ m
same_written e = ap (λ (a : Asked). a.written) (ok_same e)

pub same_answer : {n m : ℕ} {c d : Answer ℕ} → answered n c ≡ answered m d → c ≡ d
same_answer e = ap (λ (a : Asked). a.answer) (ok_same e)

-- ---- what the writer's reply says of the definition's answer

pub refused_by : (r : Answer (List ℕ)) {x : Refusal} → length_of_written r ≡ Err x → r ≡ Err x
refused_by (Ok bytes) e = let z : ◌≡◌ {A = ℕ} 0 1 = cc in absurd (omega arith)
refused_by (Err y) e = cc

pub record WroteBytes (l : Lists) (out : List ℕ) (n : ℕ) (out' : List ℕ) : Type 0 where
  pub bytes : List ℕ
  pub answer : write l (length out) ≡ Ok bytes
  pub long : n ≡ length bytes
  pub left : out' ≡ fronted bytes out

wrote_if : (l : Lists) (out : List ℕ) (n : ℕ) (out' : List ℕ) (r : Answer (List ℕ)) → write l (length out) ≡ r
    → length_of_written r ≡ Ok n → out' ≡ filled (λ xs. xs) r out → WroteBytes l out n out'
wrote_if l out n out' (Ok bytes) a e f = record { bytes = bytes; answer = a; long = cc; left = f }
wrote_if l out n out' (Err x) a e f = let z : ◌≡◌ {A = ℕ} 0 1 = cc in absurd (omega arith)

module _ (l : Lists) (out : List ℕ) {w : (Answer ℕ)} {out' : List ℕ} (wrote : Wrote l out w out') where
  pub wrote_bytes : {n : ℕ} → w ≡ Ok n → WroteBytes l out n out'
  wrote_bytes {n} e = wrote_if l out n out' (write l (length out)) refl (sym wrote.reply ∙ e) wrote.left

  -- the promise, of the reply that was matched
  pub promised : {v : (Answer ℕ)} → w ≡ v → Wrote l out v out'
  promised e = subst (λ (r : Answer ℕ). Wrote l out r out') e wrote

  -- a refusal: there is one to name, and the slice is as before
  module _ {x : Refusal} (e : w ≡ Err x) where
    refusal : write l (length out) ≡ Err x
    refusal = refused_by (write l (length out)) (sym wrote.reply ∙ e)

    pub refused_accepts : AnsweredBy (not_written x) ↔ NoRefusal l (length out)
    refused_accepts = (
      λ a. let is = a.2 in let z : ◌≡◌ {A = ℕ} 0 1 = cc in absurd (omega arith),
      λ fine.
          let b = (accepts l (length out)).1 fine in
          let is = sym refusal ∙ b.1 in
          let z : ◌≡◌ {A = ℕ} 0 1 = cc in
          absurd (omega arith),
    )

    pub refused_left : out' ≡ out
    refused_left = wrote.left ∙ ap (λ r. filled (λ xs. xs) r out) refusal

    pub refused_claim : (rule : Rule) (ns : List (List ℕ)) (Proper : Type 0) (found : List ℕ)
        → Demand3 l out rule ns Proper found (not_written x) out' found
    refused_claim rule ns Proper found = record {
      accepts = refused_accepts;
      refuses = λ x is. (refused_left, refl);
      search_refuses = λ n x is. let z : ◌≡◌ {A = ℕ} 0 1 = cc in absurd (omega arith);
      gives_back = λ n c is. let z : ◌≡◌ {A = ℕ} 0 1 = cc in absurd (omega arith);
      lists = λ n c is. let z : ◌≡◌ {A = ℕ} 0 1 = cc in absurd (omega arith);
    }

-- a search that refused left its buffer
pub left_alone : {A : Type 0} (f : List A → List ℕ) (r : Answer (List A)) (found : List ℕ) {x : Refusal}
    → count_of r ≡ Err x → filled f r found ≡ found
left_alone f (Ok ids) found e = let z : ◌≡◌ {A = ℕ} 0 1 = cc in absurd (omega arith)
left_alone f (Err y) found e = refl

-- ---- written and asked

module _ (l : Lists) (out : List ℕ) (typed : Typed l) {n : ℕ} {out' : List ℕ} (w : WroteBytes l out n out') where
  -- the bytes that are asked
  pub asked_bytes : take n out' ≡ w.bytes
  asked_bytes =
      ap (take n) w.left ∙ ap (λ k. take k (fronted w.bytes out)) w.long
      ∙ take-append_seam w.bytes (drop (length w.bytes) out)

  pub bytes_fit : n ≤ length out'
  bytes_fit = omega (arith, w.long, ap length w.left, length-append w.bytes (drop (length w.bytes) out))

  pub answered_accepts : (c : Answer ℕ) → AnsweredBy (answered n c) ↔ NoRefusal l (length out)
  answered_accepts c = (λ a. (accepts l (length out)).0 (w.bytes, w.answer), λ fine. (n, c, refl))

  pub gives_back : {m : ℕ} → n ≡ m → GivenBack l out m out'
  gives_back same = rw (sym same, w.long, w.left) (written_back l out w.bytes typed w.answer)

  answered_claim : (rule : Rule) (ns : List (List ℕ)) (Proper : Type 0) (found : List ℕ) (c : Answer ℕ) (found' : List ℕ)
      → ((x : Refusal) → c ≡ Err x → found' ≡ found) → (Proper → Listed l rule ns found c found')
      → Demand3 l out rule ns Proper found (answered n c) out' found'
  answered_claim rule ns Proper found c found' alone lists = record {
    accepts = answered_accepts c;
    refuses = λ x is. let z : ◌≡◌ {A = ℕ} 0 1 = cc in absurd (omega arith);
    search_refuses = λ m x is. alone x (same_answer is);
    gives_back = λ m d is. gives_back (same_written is);
    lists = λ m d is proper. rw (sym (same_answer is)) (lists proper);
  }

  -- what is listed to each question that demand 3 names
  listed_to : (q : Question) (name ends other found : List ℕ) → Proper q name ends other
      → Listed l (rule_of q) (names_of q name ends other) found (count_of (put_to w.bytes q name ends other (length found)))
      (filled (λ xs. xs) (put_to w.bytes q name ends other (length found)) found)
  listed_to question.Phrase name ends other found proper =
      listed l (length out) w.bytes typed w.answer Phrase name ends proper.well_formed proper.enough found
  listed_to (question.Near window ordered) name ends other found proper =
      listed l (length out) w.bytes typed w.answer (near_rule ordered window) name ends proper.well_formed proper.enough found
  listed_to (question.Two window) name ends other found proper =
      listed_two l (length out) w.bytes typed w.answer window name other
      proper.small_a proper.small_b proper.text_a proper.text_b proper.some_window found

  pub asked_claim : (q : Question) (name ends other found : List ℕ) {c : (Answer ℕ)} {found' : List ℕ}
      → Put (take n out') q name ends other found c found'
      → Demand3 l out (rule_of q) (names_of q name ends other) (Proper q name ends other) found (answered n c) out' found'
  asked_claim q name ends other found {c} {found'} p =
      answered_claim (rule_of q) (names_of q name ends other) (Proper q name ends other) found c found'
      (λ x e. p.left ∙ left_alone (λ xs. xs) (put_to (take n out') q name ends other (length found)) found (sym p.reply ∙ e))
      (λ proper. rw (p.reply, p.left, asked_bytes) (listed_to q name ends other found proper))

-- ---- the search's calls, as what they answer to a question

module _ {bytes name ends other found : List ℕ} {c : (Answer ℕ)} {found' : List ℕ} where
  pub put_phrase : TextAnswered bytes rule.Phrase name ends found c found' → Put bytes question.Phrase name ends other found c found'
  put_phrase t = record { reply = t.reply; left = t.left }

  pub put_near : (window : ℕ) (ordered : Bool) → TextAnswered bytes (near_rule ordered window) name ends found c found'
      → Put bytes (question.Near window ordered) name ends other found c found'
  put_near window ordered t = record { reply = t.reply; left = t.left }

  pub put_two : {window : ℕ} → TwoAnswered bytes window name other found c found'
      → Put bytes (question.Two window) name ends other found c found'
  put_two t = record { reply = t.reply; left = t.left }
