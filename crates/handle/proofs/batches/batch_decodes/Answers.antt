-- Each entry's list is what the segment has there.
use mathlib.Core.Path.{◌∙◌}
use Rattle.handle.proofs.Lists.{decoded}
use Rattle.handle.proofs.batches.batch_decodes.Goals as goal

pub returns : goal.returns
returns c = λ e. record {
  each = λ s is k h.
      let d = (c.entries_decode.ensures e).each k h in
      record { postings = d.decodes.postings; decoded = decoded _ _ is d.is ∙ d.decodes.decoded };
}
