-- A document's own positions in a list that was decoded are below its length.
-- Assumes nothing.
use Rattle.std.specs.Prelude.{Ok, Some}
use mathlib.Core.Path.{◌≡◌, refl, ap, ◌∙◌}
use mathlib.Core.Bool.{Bool, true, false, cond}
use mathlib.Core.List.{List, [], ◌∷◌}
use Prim.Native.Nat.{ℕ}
use lib.Dec.{eqb}
use borrow.Author.Tests.{eqb-true}
use Rattle.segment.specs.Records.{Document, Posting, Entry}
use Rattle.segment.specs.Metadata.{length_of}
use Rattle.segment.specs.Postings.{decode}
use Rattle.segment.proofs.Within.{AllBelow, Within, decode_within}
use Rattle.calls.specs.Lookups.{positions_of}

module _ (documents : List Document) (id len : ℕ) (known : length_of documents id ≡ Some len) where
  pub positions_below : (ps : List Posting) → Within documents ps → AllBelow len (positions_of ps id)
  unfolding positions_of
  positions_below [] w = tt
  positions_below (p ∷ ps) (h, w) = step (eqb p.doc id) refl (positions_below ps w)
    where
      step : (t : Bool) → eqb p.doc id ≡ t → AllBelow len (positions_of ps id)
          → AllBelow len (cond t p.positions (positions_of ps id))
      step true e later = h len (ap (length_of documents) (eqb-true p.doc id e) ∙ known)
      step false e later = later

  pub decoded_below : (e : Entry) {ps : List Posting} → decode documents e ≡ Ok ps → AllBelow len (positions_of ps id)
  decoded_below e d = positions_below _ (decode_within documents e d)
