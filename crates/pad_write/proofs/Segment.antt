-- The sections stored each at its offset, and the header over them, are the segment; and what is made of the sizes is its length.
-- Assumes nothing.
use Rattle.std.specs.Prelude.{None}
use mathlib.Core.Path.{◌≡◌, sym, ap, ◌∙◌}
use mathlib.Core.List.{List, ◌++◌}
use Prim.Native.Nat.{ℕ, ◌+◌, ◌≤◌, ◌<◌, ◌^◌}
use native.Mathlib.Omega.{arith}
use lib.ListN.{length, drop}
use lib.Seq.{sets, length-sets}
use Rattle.common.specs.Stores.{Stored}
use Rattle.common.proofs.Stores.{stored_length}
use Rattle.crc32.specs.Crc32.{crc32_of}
use Rattle.segment.specs.Records.{Given, between}
use Rattle.segment.specs.Written.{directory_bytes, name_bytes, metadata_bytes, lists_bytes, with_header, segment_bytes}
use Rattle.calls.proofs.Lengths.{directory_length}
use Rattle.write_frame.specs.declared.frame.Offsets.{Offsets}
use Rattle.write_frame.specs.Steps.{HeaderRoom, HeaderStored}
use Rattle.write_segment.proofs.Whole.{Placed, laid, lists_there, whole}
use Rattle.pad_write.specs.Steps.{TermsRoom, TermsStored, SegmentRoom, SegmentStored}

module _ (g : Given) (out : List ℕ) (terms : ℕ) (at : Offsets) (room : SegmentRoom g out terms at) where
  abbrev directory : List ℕ
  directory = directory_bytes 0 0 g.terms

  abbrev names : List ℕ
  names = name_bytes g.terms

  abbrev metadata : List ℕ
  metadata = metadata_bytes None g.documents

  abbrev lists : List ℕ
  lists = lists_bytes g.terms

  placed : Placed out directory names metadata lists at.names at.metadata at.lists at.end
  placed = record {
    names_at = omega (arith, room.names, directory_length g.terms 0 0);
    metadata_at = room.metadata;
    lists_at = room.lists;
    end_at = room.end;
    room = room.room;
  }

  pub terms_room : length names < 2 ^ 32 → TermsRoom at.names at.lists g.terms out
  terms_room h = record {
    directory = omega (arith, room.names);
    names = omega (arith, room.metadata, room.lists);
    lists = omega (arith, room.end, room.room);
    small_names = h;
  }

  module _ {crc : ℕ} {o₁ : List ℕ} (a : TermsStored at.names at.lists g.terms out crc o₁) where
    terms_length : length o₁ ≡ length out
    terms_length = ap length a.left ∙ simp length-sets

    pub metadata_room : at.metadata + length metadata ≤ length o₁
    metadata_room = omega (arith, terms_length, room.lists, room.end, room.room)

    module _ {n : ℕ} {o₂ : List ℕ} (b : Stored metadata at.metadata o₁ n o₂) where
      is_laid : o₂ ≡ laid out directory names metadata lists at.names at.metadata at.lists at.end
      is_laid = b.left ∙ ap (λ (r : List ℕ). sets r at.metadata metadata) a.left

      pub header_room : HeaderRoom o₂ crc at
      header_room = record {
        directory = omega (arith, room.names);
        names = omega (arith, room.metadata);
        metadata = omega (arith, room.lists);
        lists = omega (arith, room.end);
        end = omega (arith, room.room, stored_length b, terms_length);
        checksum =
            a.checksum
            ∙ ap crc32_of
            (sym (ap (between at.lists at.end) is_laid
            ∙ lists_there out directory names metadata lists at.names at.metadata at.lists at.end placed));
      }

      pub segment_stored : {documents : ℕ} {o₃ : List ℕ} → documents ≡ length g.documents → HeaderStored documents terms at o₂ o₃
          → SegmentStored g out o₃
      unfolding segment_bytes
      segment_stored {documents} ds d = record {
        left =
            d.left
            ∙ whole out directory names metadata lists at.names at.metadata at.lists at.end placed documents terms o₂ is_laid
            ∙ (λ i. with_header (ds i) (room.count i) directory names metadata lists
            ++ drop (length (with_header (ds i) (room.count i) directory names metadata lists)) out);
      }
