-- The sections lie apart, so each is as it was stored when the header is made over them.
use native.Mathlib.Omega.{arith}
use Rattle.pad_map.specs.Acts.{given_of}
use Rattle.pad_write.proofs.Answered.{documents_given, documents_count, names_small, few_documents, few_terms}
use Rattle.pad_write.proofs.Bounds.{documents_match}
use Rattle.pad_write.proofs.Segment.{terms_room, metadata_room, header_room, segment_stored}
use Rattle.pad_write.proofs.write.put_segment.Goals as goal

pub put_sounds-lists_crc-requires : goal.put_sounds-lists_crc-requires
unfolding given_of
put_sounds-lists_crc-requires c =
    (c.requires.0, terms_room _ _ _ _ c.requires.2 (names_small c.requires.0))

pub put_metadata-requires : goal.put_metadata-requires
unfolding given_of
put_metadata-requires c =
    (documents_match c.requires.1, rw (documents_given c.requires.1) (metadata_room _ _ _ _ c.requires.2 c.put_sounds-lists_crc.ensures))

pub overflow_cast-ids : goal.overflow_cast-ids
overflow_cast-ids c =
    omega (arith, few_documents c.requires.0 c.requires.1)

pub overflow_cast-terms : goal.overflow_cast-terms
unfolding given_of
overflow_cast-terms c =
    omega (arith, c.requires.2.count, few_terms c.requires.0)

pub put_header-requires : goal.put_header-requires
unfolding given_of
put_header-requires c =
    header_room _ _ _ _ c.requires.2 c.put_sounds-lists_crc.ensures (rw (documents_given c.requires.1) at c.put_metadata.ensures)

pub returns : goal.returns
unfolding given_of
returns c =
    segment_stored _ _ _ _ c.requires.2 c.put_sounds-lists_crc.ensures
    (rw (documents_given c.requires.1) at c.put_metadata.ensures)
    (documents_count c.requires.1)
    c.put_header.ensures
