-- Of a segment that opens: ids rise and are below 2 ^ 32, so a length is found exactly where there is such a bar.
-- Assumes nothing.
use Rattle.std.specs.Prelude.{None, Ok, Option, Some}
use mathlib.Core.Path.{◌≡◌, refl, ap, ap₂, subst}
use mathlib.Core.List.{List}
use Prim.Native.Nat.{ℕ, ◌^◌, ◌<◌}
use native.Mathlib.Omega.{arith}
use Rattle.common.specs.Elements.{◌∈◌}
use Rattle.segment.specs.Records.{Document, Segment}
use Rattle.segment.specs.Metadata.{document, length_of}
use Rattle.segment.specs.Postings.{known}
use Rattle.segment.specs.Opening.{open_segment}
use Rattle.segment.proofs.ReadRising.{opened_rises}
use Rattle.calls.proofs.Known.{known_gives, known_from}
use Rattle.read_cursors.proofs.DocumentsHeld as held
use Rattle.read_lists.proofs.Taken.{segment_taken}
use Rattle.claim_sheet.specs.Claims.{HasBar}

module _ (bytes : List ℕ) {s : Segment} (opens : open_segment bytes ≡ Ok s) (id : ℕ) where
  abbrev there : Option ℕ
  there = length_of s.documents id

  rise : held.Rising 0 s.documents
  rise = (segment_taken bytes opens).0

  module _ (len : ℕ) where
    pub bar_gives : there ≡ Some len → HasBar s id len
    bar_gives e =
        let f = known_gives s.documents id len (ap known e) in
        subst (λ (d : Document). d ∈ s.documents) (ap₂ document f.same f.length) f.known

    pub bar_from : HasBar s id len → there ≡ Some len
    bar_from b = known_from s.documents (opened_rises bytes opens) (document id len) b

    pub bar_small : HasBar s id len → id < 2 ^ 32
    bar_small b = held.known_small 0 s.documents rise id (bar_from b)

  pub none_gives : there ≡ None → (len : ℕ) → HasBar s id len → ⊥
  none_gives e len b = let z : ◌≡◌ {A = ℕ} 0 1 = cc (e, bar_from len b) in omega arith

  pub none_from : ((len : ℕ) → HasBar s id len → ⊥) → there ≡ None
  none_from no_bar = go there refl
    where
      go : (o : Option ℕ) → there ≡ o → there ≡ None
      go None e = e
      go (Some len) e = absurd (no_bar len (bar_gives len e))
