-- The bar that is asked for, from a cursor that was sought to it.
-- Assumes nothing.
use Rattle.std.specs.Prelude.{Err, Ok, Some}
use mathlib.Core.Path.{◌≡◌, sym, ap, ◌∙◌}
use mathlib.Core.List.{List}
use Prim.Native.Nat.{ℕ, ◌≤◌, ◌<◌}
use borrow.Author.Tests.{le-leb, lt-leb}
use Rattle.segment.specs.Refusals.{unknown_bar, bar_too_long}
use Rattle.segment.specs.Records.{Document}
use Rattle.segment.specs.Metadata.{length_of}
use Rattle.read_cursors.specs.declared.documents.Documents.{Documents}
use Rattle.read_cursors.specs.Steps.{documents_from, SoughtDocument}
use Rattle.read_cursors.proofs.DocumentsHeld.{sought_found, sought_other}
use Rattle.show_sheet.specs.Steps.{paper_length, bar_found}

module _ (meta : List ℕ) (documents : List Document) (id : ℕ) (first here : Documents)
    (starts : documents_from meta first ≡ documents) (sought : SoughtDocument meta id first here) where
  pub no_bar : (0 < here.remaining → here.id.0 ≡ id → ⊥) → Err unknown_bar ≡ bar_found id (paper_length documents id)
  no_bar h = let e = ap (λ ds. length_of ds id) (sym starts) ∙ sought_other meta id first here sought h in rw e

  module _ (h : 0 < here.remaining) (same : here.id.0 ≡ id) where
    length_is : length_of documents id ≡ Some here.len
    length_is = ap (λ ds. length_of ds id) (sym starts) ∙ sought_found meta id first here sought h same

    pub bar_long : 64 < here.len → Err bar_too_long ≡ bar_found id (paper_length documents id)
    bar_long k = rw (length_is, lt-leb here.len 64 k)

    pub bar_short : here.len ≤ 64
        → Ok (record { id = record { 0 = id }; len = here.len }) ≡ bar_found id (paper_length documents id)
    bar_short k = rw (length_is, le-leb here.len 64 k)
