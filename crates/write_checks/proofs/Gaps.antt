-- The first gap is the one taken from 0.
-- Assumes nothing.
use Rattle.std.specs.Prelude.{None, Option, Some, option_map}
use Rattle.std.specs.Option.{unwrap_or}
use mathlib.Core.Path.{◌≡◌, ap, ◌∙◌}
use native.Mathlib.Nat.{sub-zero}
use Rattle.segment.specs.declared.ids.DocId.{DocId}
use Rattle.segment.specs.Records.{Posting}
use Rattle.segment.specs.Written.{posting_bytes}

pub posting_zero : (p : Posting) → posting_bytes (Some 0) p ≡ posting_bytes None p
unfolding posting_bytes
posting_zero p = rw (sub-zero p.doc)

-- from the document before, or else from 0
pub posting_based : (previous : Option DocId) {base : DocId} (p : Posting) → base ≡ unwrap_or previous (record { 0 = 0 })
    → posting_bytes (Some base.0) p ≡ posting_bytes (option_map (λ d. d.0) previous) p
posting_based (Some d) p is = ap (λ (b : DocId). posting_bytes (Some b.0) p) is
posting_based None p is = ap (λ (b : DocId). posting_bytes (Some b.0) p) is ∙ posting_zero p
