-- What a reader must believe, in the order to read it:
pub mod Lookup
pub mod Words
-- What is claimed of the definitions:
pub mod Claims
