-- 20, 12 and 11 are tested in the definition's order; behind them the writer's answer of the pad's lists is the call's.
use Rattle.std.specs.Prelude.{Ok}
use Rattle.pad_write.specs.Steps.{check_text as text-checks}
use mathlib.Core.Path.{◌≡◌, sym, ◌∙◌}
use mathlib.Core.Bool.{true}
use Prim.Native.Nat.{ℕ, ◌≤◌}
use Rattle.std.proofs.lemmas.Result.{err_from_is_err_and}
use native.Mathlib.Omega.{arith}
use lib.ListN.{length-replicate}
use lib.Seq.{length-take-le}
use Rattle.segment.proofs.Accepted.{passed_ok, refused_is}
use Rattle.pad_words.specs.Whole.{whole}
use Rattle.pad_words.proofs.Wholes.{whole_parts}
use Rattle.pad_write.proofs.Answered.{documents_front, text_gives, pad_broken, text_refused, pad_answered}
use Rattle.pad_write.proofs.write.pad_write.Goals as goal
use Rattle.pad_write.proofs.write.pad_write.Goals.{After-gather_documents, Else-not-is_whole, In_ok-check_text}

is-pad : (c : Else-not-is_whole) → whole c.args.pad.now ≡ true
is-pad c = sym c.is_whole.ensures ∙ c.if-not-is_whole.false

fine-text : (c : In_ok-check_text) → text-checks c.args.text.now c.args.ends.now ≡ Ok tt
fine-text c = (passed_ok _ c.in_ok-check_text.ensures).1

bars-there : (c : After-gather_documents) → c.long-bars.result ≤ 256
bars-there c =
    omega (arith, c.long-bars.ensures, (whole_parts _ (sym c.is_whole.ensures ∙ c.if-not-is_whole.false)).bars)

pub returns-then-not-is_whole : goal.returns-then-not-is_whole
returns-then-not-is_whole c =
    pad_broken _ _ _ _ (sym c.is_whole.ensures ∙ c.if-not-is_whole.true)

pub returns-in_err-check_text : goal.returns-in_err-check_text
returns-in_err-check_text c =
    let p = err_from_is_err_and c.from_residual.result c.from_residual.ensures.1 in
    rw (p.1, p.2)
    (text_refused _ _ _ _ (is-pad (goal.at.returns-in_err-check_text c).Else-not-is_whole) (refused_is _ c.in_err-check_text.ensures))

pub bounds-pad-0 : goal.bounds-pad-0
bounds-pad-0 c = omega (arith, (whole_parts _ (is-pad (goal.at.bounds-pad-0 c).Else-not-is_whole)).words)

pub gather_documents-requires : goal.gather_documents-requires
gather_documents-requires c =
    record { whole_pad = is-pad (goal.at.gather_documents-requires c).Else-not-is_whole; ids_long = length-replicate {A = ℕ} 256 0; lengths_long = length-replicate {A = ℕ} 256 0 }

pub slice_bounds-ids-end : goal.slice_bounds-ids-end
slice_bounds-ids-end c = omega (arith, bars-there c, c.gather_documents.ensures.ids_long)

pub slice_bounds-write_sounds-end : goal.slice_bounds-write_sounds-end
slice_bounds-write_sounds-end c =
    sym (length-take-le _ _ (omega (arith, bars-there (goal.at.slice_bounds-write_sounds-end c).After-gather_documents, c.gather_documents.ensures.ids_long)))

pub slice_bounds-lengths-end : goal.slice_bounds-lengths-end
slice_bounds-lengths-end c = omega (arith, bars-there (goal.at.slice_bounds-lengths-end c).After-gather_documents, c.gather_documents.ensures.lengths_long)

pub slice_bounds-write_sounds-end-2 : goal.slice_bounds-write_sounds-end-2
slice_bounds-write_sounds-end-2 c =
    sym (length-take-le _ _ (omega (arith, bars-there (goal.at.slice_bounds-write_sounds-end-2 c).After-gather_documents, c.gather_documents.ensures.lengths_long)))

pub write_sounds-requires : goal.write_sounds-requires
write_sounds-requires c =
    let f = text_gives _ _ (fine-text (goal.at.write_sounds-requires c).In_ok-check_text) in (
      record {
        whole_pad = is-pad (goal.at.write_sounds-requires c).Else-not-is_whole;
        short = f.short;
        sounds = f.sounds;
        fit = f.fit;
        long = record {
          ids_long = length-replicate {A = ℕ} 256 0;
          counts_long = length-replicate {A = ℕ} 256 0;
          positions_long = length-replicate {A = ℕ} 8192 0;
        };
      },
      documents_front c.gather_documents.ensures c.long-bars.ensures,
    )

pub returns : goal.returns
returns c =
    pad_answered _ _ _ _ (is-pad (goal.at.returns c).Else-not-is_whole) (fine-text (goal.at.returns c).In_ok-check_text) c.write_sounds.ensures
