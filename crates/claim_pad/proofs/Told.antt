-- From what writing out and the search promise to the claim about a call that does both.
-- Assumes nothing.
use Rattle.std.specs.Prelude.{Err, Ok}
use mathlib.Core.Path.{◌≡◌, refl, sym, ap, ◌∙◌, subst}
use mathlib.Core.List.{List}
use Prim.Native.Nat.{ℕ, ◌^◌, ◌≤◌}
use native.Mathlib.Omega.{arith}
use lib.ListN.{length, take}
use Rattle.segment.specs.Results.{Answer}
use Rattle.segment.specs.Texts.{names}
use Rattle.segment.specs.declared.refusal.Refusal.{Refusal}
use Rattle.segment.proofs.Binds.{refuse_ok}
use Rattle.rules.specs.declared.rule.Rule.TheVariants.{Phrase}
use Rattle.calls.specs.Replies.{fronted, filled, length_of_written}
use Rattle.calls.proofs.Unflat.{given_back}
use Rattle.roundtrip.specs.Claims.{Below, Typed}
use Rattle.ask_search.specs.Promise.{TextAnswered}
use Rattle.claim_joint.specs.declared.ask.Question.TheVariants as question
use Rattle.claim_joint.specs.Demand.{answered, not_written, ProperText, Demand3}
use Rattle.claim_joint.proofs.Claimed.{refused_by, WroteBytes, bytes_fit, asked_claim, put_phrase}
use Rattle.pad_map.specs.Acts.{given_of}
use Rattle.pad_words.specs.Words.{held}
use Rattle.pad_words.specs.Calls.{pad_write}
use Rattle.pad_write.specs.Promise.{PadWritten}
use Rattle.claim_pad.specs.Written.{map_lists}
use Rattle.claim_pad.specs.Promise.{PadWrittenThenAsked}
use Rattle.claim_pad.proofs.Writable.{WrittenSo, written_gives, written_exactly}
use Rattle.claim_pad.proofs.Searched.{written_typed, bars_listed}

-- ---- what the reply says of the definition's answer

pub record PadBytes (pad text ends out : List ℕ) (n : ℕ) (out' : List ℕ) : Type 0 where
  pub bytes : List ℕ
  pub answer : pad_write pad text ends (length out) ≡ Ok bytes
  pub long : n ≡ length bytes
  pub left : out' ≡ fronted bytes out

bytes_if : (pad text ends out : List ℕ) (n : ℕ) (out' : List ℕ) (r : Answer (List ℕ)) → pad_write pad text ends (length out) ≡ r
    → length_of_written r ≡ Ok n → out' ≡ filled (λ xs. xs) r out → PadBytes pad text ends out n out'
bytes_if pad text ends out n out' (Ok bytes) a e f = record { bytes = bytes; answer = a; long = cc; left = f }
bytes_if pad text ends out n out' (Err x) a e f = let z : ◌≡◌ {A = ℕ} 0 1 = cc in absurd (omega arith)

module _ (pad text ends out : List ℕ) {w : Answer ℕ} {out' : List ℕ} (wrote : PadWritten pad text ends out w out') where
  -- the promise, of the reply that was matched
  promised : {v : Answer ℕ} → w ≡ v → PadWritten pad text ends out v out'
  promised e = subst (λ (r : Answer ℕ). PadWritten pad text ends out r out') e wrote

  -- ---- not written

  pub refused_claim : {x : Refusal} → w ≡ Err x → (name name_ends found : List ℕ)
      → PadWrittenThenAsked pad text ends out name name_ends found (not_written x) out' found
  refused_claim {x} e name name_ends found =
      let refusal : pad_write pad text ends (length out) ≡ Err x =
      refused_by (pad_write pad text ends (length out)) (sym wrote.reply ∙ e) in
      let same : out' ≡ out = wrote.left ∙ ap (λ r. filled (λ xs. xs) r out) refusal in
      record {
        claim = record {
          accepts = (
            λ a. let is = a.2 in let z : ◌≡◌ {A = ℕ} 0 1 = cc in absurd (omega arith),
            λ fine. let (bytes, is) = (written_exactly pad text ends (length out)).1 fine in refuse_ok (sym refusal ∙ is),
          );
          refuses = λ y is. (same, refl);
          search_refuses = λ n y is. let z : ◌≡◌ {A = ℕ} 0 1 = cc in absurd (omega arith);
          gives_back = λ n c is. let z : ◌≡◌ {A = ℕ} 0 1 = cc in absurd (omega arith);
          lists = λ n c is. let z : ◌≡◌ {A = ℕ} 0 1 = cc in absurd (omega arith);
        };
        called = (promised e, refl);
      }

  -- ---- written

  module _ {n : ℕ} (e : w ≡ Ok n) where
    wrote_so : PadBytes pad text ends out n out'
    wrote_so = bytes_if pad text ends out n out' (pad_write pad text ends (length out)) refl (sym wrote.reply ∙ e) wrote.left

    so : WrittenSo pad text ends (length out) wrote_so.bytes
    so = written_gives pad text ends (length out) wrote_so.answer

    -- the writer wrote the map's lists
    lists_written : WroteBytes (map_lists pad text ends) out n out'
    lists_written =
        record { bytes = wrote_so.bytes; answer = so.written; long = wrote_so.long; left = wrote_so.left }

    module _ (low : Below (2 ^ 32) pad) (low_text : Below 256 text) where
      typed : Typed (map_lists pad text ends)
      typed = written_typed pad text ends (length out) wrote_so.bytes so low low_text

      pub written_fits : n ≤ length out'
      written_fits = bytes_fit (map_lists pad text ends) out typed lists_written

      module _ (name name_ends found : List ℕ) {c : Answer ℕ} {found' : List ℕ}
          (told : TextAnswered (take n out') Phrase name name_ends found c found') where
        demand : Demand3 (map_lists pad text ends) out Phrase (names 0 name_ends name) (ProperText Phrase name name_ends) found
            (answered n c) out' found'
        demand =
            asked_claim (map_lists pad text ends) out typed lists_written question.Phrase name name_ends name found (put_phrase told)

        pub asked_claimed : PadWrittenThenAsked pad text ends out name name_ends found (answered n c) out' found'
        asked_claimed = record {
          claim = record {
            accepts = (
              λ a. (written_exactly pad text ends (length out)).0 (wrote_so.bytes, wrote_so.answer),
              λ fine. (n, c, refl),
            );
            refuses = λ x is. let z : ◌≡◌ {A = ℕ} 0 1 = cc in absurd (omega arith);
            search_refuses = demand.search_refuses;
            gives_back = λ m d is.
                let b = demand.gives_back m d is in
                (b.size, b.fits, b.back ∙ ap Ok (given_back (given_of (names 0 ends text) (held pad))), b.rest);
            lists = λ m d is proper.
                bars_listed pad text ends (length out) wrote_so.bytes so name name_ends proper found (demand.lists m d is proper);
          };
          called = (promised e, told);
        }
