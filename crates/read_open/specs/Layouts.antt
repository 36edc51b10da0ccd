-- The layout that the header's numbers make.
use Rattle.std.specs.Prelude.{ℕ, ◌+◌, List}
use Rattle.read_open.specs.declared.header.Layout.{Layout}
use Rattle.segment.specs.Records.{field, header_size}

-- the two counts; and where the directory, the term bytes and the metadata end, each its length after the one before
abbrev pub layout_in : List ℕ → Layout
layout_in bytes = record {
  documents = field 4 16 bytes;
  terms = field 4 20 bytes;
  names = header_size + field 8 24 bytes;
  metadata = header_size + field 8 24 bytes + field 8 32 bytes;
  lists = header_size + field 8 24 bytes + field 8 32 bytes + field 8 40 bytes;
}
