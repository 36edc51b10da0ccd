-- The checksums are taken before anything is stored, so they are those of the sections; the lists' is given.
use Rattle.write_frame.proofs.Framed.{header_stored}
use Rattle.write_frame.proofs.frame.put_header.Goals as goal

pub returns : goal.returns
returns c =
    let a = c.args in
    header_stored a.documents a.terms a.lists_crc a.at a.out.now c.requires
    c.crc32-directory_crc.ensures c.crc32-names_crc.ensures c.crc32-metadata_crc.ensures
    c.put_bytes-counts.ensures c.put_four_u32-lengths.ensures c.put_four_u64-checksums.ensures c.put_four_u32.ensures
