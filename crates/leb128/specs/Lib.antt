-- What a reader must believe, in the order to read it:
pub mod Leb128
-- What the calls promise:
pub mod Promise
-- What is claimed of the definitions:
pub mod Claims
