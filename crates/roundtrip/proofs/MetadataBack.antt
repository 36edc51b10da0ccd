-- Document metadata that was written is read back as the documents handed in.
-- Assumes nothing.
use Rattle.std.specs.Prelude.{None, Ok, Option, Some}
use mathlib.Core.Path.{◌≡◌, refl}
use mathlib.Core.Bool.{true}
use mathlib.Core.List.{List, [], ◌∷◌, ◌++◌, append_assoc, append-nil}
use mathlib.Core.Logic.{inl, inr}
use Prim.Native.Nat.{ℕ, suc, ◌^◌, ◌<◌}
use lib.ListN.{length}
use borrow.Author.Tests.{lt-ltb}
use Rattle.leb128.specs.Leb128.{encoded}
use Rattle.segment.specs.Refusals.{document_metadata}
use Rattle.segment.specs.Records.{Document, rises, gap}
use Rattle.segment.specs.Metadata.{read_document, read_documents, metadata}
use Rattle.segment.specs.Written.{metadata_bytes}
use Rattle.common.specs.Elements.{◌∈◌, Rising}
use Rattle.segment.proofs.After.{After, after_head, after_tail}
use Rattle.calls.proofs.Accepted.{ids}
use Rattle.roundtrip.proofs.Front.{number_back}
use Rattle.roundtrip.proofs.NumbersBack.{gap_back, gap_lt}

-- both numbers of each document have 32 bits
abbrev pub NumbersFit : List Document → Type 0
NumbersFit ds = (d : Document) → d ∈ ds → (d.id < 2 ^ 32) × (d.len < 2 ^ 32)

document_back : (place : ℕ) (previous : Option ℕ) (d : Document) (rest : List ℕ)
    → rises previous d.id ≡ true → d.id < 2 ^ 32 → d.len < 2 ^ 32
    → read_document place previous (encoded (gap previous d.id) ++ (encoded d.len ++ rest)) ≡ Ok (record { got = d; rest = rest })
unfolding read_document
document_back place previous d rest up small short =
    rw (
      number_back document_metadata place (gap previous d.id) (encoded d.len ++ rest) (gap_lt previous d.id (2 ^ 32) small),
      number_back document_metadata place d.len rest short,
      gap_back previous d.id up,
      lt-ltb d.id (2 ^ 32) small,
      up,
    )

documents_back : (ds : List Document) (previous : Option ℕ) (place : ℕ) (rest : List ℕ) → After previous (ids ds) → NumbersFit ds
    → read_documents (length ds) place previous (metadata_bytes previous ds ++ rest) ≡ Ok (record { got = ds; rest = rest })
unfolding read_documents metadata_bytes
documents_back [] previous place rest a f = refl
documents_back (d ∷ ds) previous place rest a f =
    let h = f d (inl refl) in
    simp append_assoc
    (rw (
      document_back place previous d (metadata_bytes (Some d.id) ds ++ rest) (after_head previous d.id (ids ds) a) h.0 h.1,
      documents_back ds (Some d.id) (suc place) rest (after_tail previous d.id (ids ds) a) (λ e m. f e (inr m)),
    ))

pub metadata_back : (ds : List Document) → Rising (ids ds) → NumbersFit ds → metadata (length ds) (metadata_bytes None ds) ≡ Ok ds
unfolding metadata
metadata_back ds r f = rw (← (append-nil (metadata_bytes None ds)), documents_back ds None 0 [] r f)
