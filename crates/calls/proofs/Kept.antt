-- A lent buffer that holds an answer at its front: what is past the answer is as before, and so is all of it after a refusal.
-- Assumes nothing.
use Rattle.std.specs.Prelude.{Err, Ok}
use Rattle.segment.specs.declared.replies.Totals.{Totals}
use mathlib.Core.Path.{◌≡◌, refl, sym, ap, ◌∙◌}
use mathlib.Core.List.{List, [], ◌∷◌, ◌++◌}
use Prim.Native.Nat.{ℕ, ◌+◌, ◌-◌, ◌≤◌}
use native.Mathlib.Omega.{arith}
use lib.ListN.{length, drop, length-append, length-drop, length-map}
use lib.Dec.{leb}
use lib.Seq.{drop-drop, drop-append-add}
use borrow.Author.Tests.{leb-true}
use Rattle.segment.specs.Results.{Answer}
use Rattle.segment.specs.Records.{Posting}
use Rattle.segment.specs.Postings.{total_positions}
use Rattle.segment.specs.Texts.{names}
use Rattle.segment.specs.Opening.{open_segment}
use Rattle.segment.proofs.Binds.{bind_gives, ok_same}
use Rattle.segment.proofs.Accepted.{check_gives}
use Rattle.rules.specs.declared.rule.Rule.{Rule}
use Rattle.rules.specs.declared.rule.Rule.TheVariants.{Unordered}
use Rattle.calls.specs.Questions.{check_question, two_checks, answers, search, search_text, search_two}
use Rattle.calls.specs.Replies.{fronted, filled, count_of, docs_of, counts_of, totals}
use Rattle.calls.specs.Kept.{Past, Kept, KeptPostings}
use Rattle.calls.specs.Lookups.{positions_of}
use Rattle.calls.specs.Reads.{term_list, docs_with_term, term_postings, positions, joined_positions}

-- ---- an answer at the front

-- of an answer that is said to be longer than it is, what is past is kept as well
pub past_within : (answer before : List ℕ) (n : ℕ) → length answer ≤ n → n ≤ length before → Past n before (fronted answer before)
past_within answer before n few h =
    let k = length answer in
    let rest = drop k before in
    let here : n ≡ k + (n - k) = omega arith in
    record {
      room = h;
      same_length = omega (arith, length-append answer rest, length-drop k before);
      rest =
          ap (λ (m : ℕ). drop m (answer ++ rest)) here ∙ drop-append-add answer rest (n - k) ∙ drop-drop (n - k) k before
          ∙ ap (λ (m : ℕ). drop m before) (sym here);
    }

pub past_front : (answer before : List ℕ) → length answer ≤ length before → Past (length answer) before (fronted answer before)
past_front answer before h = past_within answer before (length answer) (omega arith) h

pub past_none : (before : List ℕ) → Past 0 before before
past_none before = record { room = omega arith; same_length = refl; rest = refl }

-- ---- the calls that read: an answer is given where it has room

module _ (bytes name : List ℕ) (room : ℕ) {xs : List ℕ} where
  docs_room : docs_with_term bytes name room ≡ Ok xs → length xs ≤ room
  unfolding docs_with_term
  docs_room e =
      let (ps, _, f) = bind_gives (term_list bytes name) _ e in
      let (t, g) = check_gives (leb (length ps) room) _ _ f in
      omega (arith, leb-true (length ps) room t, ap length (ok_same g), length-map ps (λ p. p.doc))

  positions_room : (doc : ℕ) → positions bytes name doc room ≡ Ok xs → length xs ≤ room
  unfolding positions
  positions_room doc e =
      let (ps, _, f) = bind_gives (term_list bytes name) _ e in
      let (t, g) = check_gives (leb (length (positions_of ps doc)) room) _ _ f in
      omega (arith, leb-true (length (positions_of ps doc)) room t, ap length (ok_same g))

module _ (before : List ℕ) {r : (Answer ℕ)} {after : List ℕ} where
  answer_kept : (a : Answer (List ℕ)) → ((xs : List ℕ) → a ≡ Ok xs → length xs ≤ length before) → r ≡ count_of a
      → after ≡ filled (λ xs. xs) a before → Kept before r after
  answer_kept (Ok xs) room reply left = rw (reply, left) (past_front xs before (room xs refl))
  answer_kept (Err x) room reply left = rw (reply, left)

  pub docs_kept : (bytes name : List ℕ) → r ≡ count_of (docs_with_term bytes name (length before))
      → after ≡ filled (λ xs. xs) (docs_with_term bytes name (length before)) before → Kept before r after
  docs_kept bytes name =
      answer_kept (docs_with_term bytes name (length before)) (λ xs e. docs_room bytes name (length before) e)

  pub positions_kept : (bytes name : List ℕ) (doc : ℕ) → r ≡ count_of (positions bytes name doc (length before))
      → after ≡ filled (λ xs. xs) (positions bytes name doc (length before)) before → Kept before r after
  positions_kept bytes name doc =
      answer_kept (positions bytes name doc (length before)) (λ xs e. positions_room bytes name (length before) doc e)

-- ---- the calls that ask

search_room : (bytes : List ℕ) (rule : Rule) (ns : List (List ℕ)) (room : ℕ) {xs : List ℕ} → search bytes rule ns room ≡ Ok xs
    → length xs ≤ room
unfolding search
search_room bytes rule ns room e =
    let (s, _, f) = bind_gives (open_segment bytes) _ e in
    let (found, _, g) = bind_gives (answers s rule ns) _ f in
    let (t, k) = check_gives (leb (length found) room) _ _ g in
    omega (arith, leb-true (length found) room t, ap length (ok_same k))

text_room : (bytes : List ℕ) (rule : Rule) (text ends : List ℕ) (room : ℕ) {xs : List ℕ} → search_text bytes rule text ends room ≡ Ok xs
    → length xs ≤ room
unfolding search_text
text_room bytes rule text ends room e =
    let (_, _, f) = bind_gives (check_question text ends) _ e in
    search_room bytes rule (names 0 ends text) room f

two_room : (bytes : List ℕ) (window : ℕ) (a b : List ℕ) (room : ℕ) {xs : List ℕ} → search_two bytes window a b room ≡ Ok xs
    → length xs ≤ room
unfolding search_two
two_room bytes window a b room e =
    let (_, _, f) = bind_gives (two_checks a b) _ e in
    search_room bytes (Unordered window) (a ∷ b ∷ []) room f

module _ (before : List ℕ) {r : (Answer ℕ)} {after : List ℕ} where
  pub text_kept : (bytes : List ℕ) (rule : Rule) (text ends : List ℕ) → r ≡ count_of (search_text bytes rule text ends (length before))
      → after ≡ filled (λ xs. xs) (search_text bytes rule text ends (length before)) before → Kept before r after
  text_kept bytes rule text ends =
      answer_kept before (search_text bytes rule text ends (length before)) (λ xs e. text_room bytes rule text ends (length before) e)

  pub two_kept : (bytes : List ℕ) (window : ℕ) (a b : List ℕ) → r ≡ count_of (search_two bytes window a b (length before))
      → after ≡ filled (λ xs. xs) (search_two bytes window a b (length before)) before → Kept before r after
  two_kept bytes window a b =
      answer_kept before (search_two bytes window a b (length before)) (λ xs e. two_room bytes window a b (length before) e)

-- ---- three buffers

joined_many : (ps : List Posting) → length (joined_positions ps) ≡ total_positions ps
unfolding joined_positions total_positions
joined_many [] = refl
joined_many (p ∷ ps) = omega (arith, length-append p.positions (joined_positions ps), joined_many ps)

postings_room : (bytes name : List ℕ) (room₁ room₂ room₃ : ℕ) {ps : List Posting}
    → term_postings bytes name room₁ room₂ room₃ ≡ Ok ps
    → (length ps ≤ room₁) × (length ps ≤ room₂) × (total_positions ps ≤ room₃)
unfolding term_postings
postings_room bytes name room₁ room₂ room₃ e =
    let (qs, _, f) = bind_gives (term_list bytes name) _ e in
    let (t₁, f₁) = check_gives (leb (length qs) room₁) _ _ f in
    let (t₂, f₂) = check_gives (leb (length qs) room₂) _ _ f₁ in
    let (t₃, f₃) = check_gives (leb (total_positions qs) room₃) _ _ f₂ in
    rw (← ok_same f₃) (leb-true _ _ t₁, leb-true _ _ t₂, leb-true _ _ t₃)

module _ (ids counts places : List ℕ) {r : (Answer Totals)} {ids' counts' places' : List ℕ} where
  totals_kept : (a : Answer (List Posting))
      → ((ps : List Posting) → a ≡ Ok ps
      → (length ps ≤ length ids) × (length ps ≤ length counts) × (total_positions ps ≤ length places))
      → r ≡ totals a → ids' ≡ filled docs_of a ids → counts' ≡ filled counts_of a counts → places' ≡ filled joined_positions a places
      → KeptPostings ids counts places r ids' counts' places'
  totals_kept (Ok ps) room reply left₁ left₂ left₃ =
      let (room₁, room₂, room₃) = room ps refl in
      rw (reply, left₁, left₂, left₃) (
        past_within (docs_of ps) ids (length ps) (omega (arith, length-map ps (λ p. p.doc))) room₁,
        past_within (counts_of ps) counts (length ps) (omega (arith, length-map ps (λ p. length p.positions))) room₂,
        past_within (joined_positions ps) places (total_positions ps) (omega (arith, joined_many ps)) room₃,
      )
  totals_kept (Err x) room reply left₁ left₂ left₃ = rw (reply, left₁, left₂, left₃) (refl, refl, refl)

  pub postings_kept : (bytes name : List ℕ) → let a = term_postings bytes name (length ids) (length counts) (length places) in
      r ≡ totals a → ids' ≡ filled docs_of a ids → counts' ≡ filled counts_of a counts → places' ≡ filled joined_positions a places
      → KeptPostings ids counts places r ids' counts' places'
  postings_kept bytes name =
      totals_kept (term_postings bytes name (length ids) (length counts) (length places))
      (λ ps e. postings_room bytes name (length ids) (length counts) (length places) e)
