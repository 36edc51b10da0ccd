-- What decoding gives of every sound: its documents rise, the bar's positions rise and are below its length, and no more than that.
-- Assumes nothing.
use Rattle.std.specs.Prelude.{Ok, Some}
use mathlib.Core.Path.{◌≡◌, sym, subst}
use mathlib.Core.List.{List, [], ◌∷◌}
use Prim.Native.Nat.{ℕ}
use Rattle.common.specs.Elements.{◌∈◌}
use Rattle.common.proofs.Elements.{each}
use Rattle.segment.specs.Records.{Document, Term, Entry}
use Rattle.segment.specs.Metadata.{length_of}
use Rattle.segment.specs.Postings.{decode}
use Rattle.segment.specs.Contents.{decode_all}
use Rattle.segment.proofs.Binds.{bind_gives, ok_same}
use Rattle.segment.proofs.ReadRising.{decoded_rises}
use Rattle.calls.proofs.OwnRising.{own_rises}
use Rattle.calls.proofs.Below.{decoded_below}
use Rattle.read_terms.proofs.InDocument.{own_few}
use Rattle.claim_sheet.proofs.Hitting.{Fits}

module _ (documents : List Document) (id len : ℕ) (known : length_of documents id ≡ Some len) where
  pub all_fit : (es : List Entry) {ts : List Term} → decode_all documents es ≡ Ok ts → (t : Term) → t ∈ ts → Fits id len t
  unfolding decode_all
  all_fit [] d t m = absurd (subst (λ (ts : List Term). t ∈ ts) (sym (ok_same d)) m)
  all_fit (e ∷ es) d t m =
      let (ps, is, f) = bind_gives (decode documents e) _ d in
      let (more, those, g) = bind_gives (decode_all documents es) _ f in
      let (r, each_rises) = decoded_rises documents e is in
      each (Fits id len) (record { name = e.name; postings = ps }) more
      (record {
        documents_rise = r;
        rise = own_rises ps each_rises id;
        below = decoded_below documents id len known e is;
        few = own_few documents id len known e is;
      })
      (all_fit es those) t (subst (λ (ts : List Term). t ∈ ts) (sym (ok_same g)) m)
