-- What a reader must believe, in the order to read it:
pub mod Crc32
-- Parts of it, which the crate's own functions promise:
pub mod Parts
-- The same by the numbers and steps of documents 01 and 02:
pub mod Formula
-- What is claimed of the definitions:
pub mod Claims
