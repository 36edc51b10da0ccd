-- The offsets are those of the definition, since what was measured has its length.
use mathlib.Core.Path.{refl}
use Rattle.std.proofs.lemmas.Result.{err_from_is_err_and}
use native.Mathlib.Omega.{arith}
use Rattle.common.specs.Lists.{paired}
use Rattle.segment.specs.Metadata.{document}
use Rattle.pad_write.specs.Steps.{TalliedAll}
use Rattle.pad_write.proofs.Answered.{SizesLow, sizes_low, sounds_refused, sounds_room, sounds_no_room, sounds_written}
use Rattle.pad_write.proofs.Bounds.{documents_match, pad_terms}
use Rattle.pad_write.proofs.write.write_sounds.Goals as goal
use Rattle.pad_write.proofs.write.write_sounds.Goals.{In_ok-tally}

-- the sizes, where every check passed
sized : (c : In_ok-tally) → let a = c.args in
    TalliedAll (paired document a.ids.now a.lengths.now) (pad_terms a.pad.now a.text.now a.ends.now)
    c.in_ok-tally.tally
sized c = c.in_ok-tally.ensures.answer

low : (c : In_ok-tally) → SizesLow c.args.pad.now c.args.text.now c.args.ends.now c.requires.0 c.requires.1 c.args.out.now (sized c)
low c = sizes_low _ _ _ _ _ _ _

pub returns-in_err-tally : goal.returns-in_err-tally
returns-in_err-tally c =
    let p = err_from_is_err_and c.from_residual.result c.from_residual.ensures.1 in
    rw (p.1, p.2) (sounds_refused _ _ _ c.requires.0 c.requires.1 _ c.in_err-tally.ensures.answer)

pub overflow_mul-names : goal.overflow_mul-names
overflow_mul-names c = omega (arith, (low c).terms)

pub overflow_add-names : goal.overflow_add-names
overflow_add-names c = omega (arith, (low c).terms)

pub overflow_add-metadata : goal.overflow_add-metadata
overflow_add-metadata c = let l = low (goal.at.overflow_add-metadata c).In_ok-tally in omega (arith, l.terms, l.name_size)

pub metadata_len-requires : goal.metadata_len-requires
metadata_len-requires c =
    let l = low (goal.at.metadata_len-requires c).In_ok-tally in
    (documents_match c.requires.1, omega (arith, l.documents))

pub overflow_add-lists : goal.overflow_add-lists
overflow_add-lists c =
    let l = low (goal.at.overflow_add-lists c).In_ok-tally in
    omega (arith, l.terms, l.name_size, l.metadata_size, c.metadata_len.ensures)

pub overflow_add-end : goal.overflow_add-end
overflow_add-end c =
    let l = low (goal.at.overflow_add-end c).In_ok-tally in
    omega (arith, l.terms, l.name_size, l.metadata_size, l.list_size, c.metadata_len.ensures)

pub returns-then-out-end : goal.returns-then-out-end
returns-then-out-end c =
    sounds_no_room _ _ _ c.requires.0 c.requires.1 _ (sized (goal.at.returns-then-out-end c).In_ok-tally) c.metadata_len.ensures refl refl refl refl c.if-out-end.true

pub put_segment-requires : goal.put_segment-requires
put_segment-requires c =
    let q = c.requires.0 in (
      record {
        whole_pad = q.whole_pad;
        short = q.short;
        sounds = q.sounds;
        fit = q.fit;
        long = c.measure_sounds.ensures.long;
      },
      c.requires.1,
      sounds_room _ _ _ q c.requires.1 _ (sized (goal.at.put_segment-requires c).In_ok-tally) c.metadata_len.ensures refl refl refl refl c.if-out-end.false,
    )

pub returns : goal.returns
returns c =
    sounds_written _ _ _ c.requires.0 c.requires.1 _ (sized (goal.at.returns c).In_ok-tally) c.metadata_len.ensures refl refl refl refl c.if-out-end.false
    c.put_segment.ensures
