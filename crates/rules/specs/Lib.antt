-- What a reader must believe, in the order to read it:
pub mod Words
pub mod Rules
pub mod Kinds
pub mod Different
-- What is claimed of the definitions:
pub mod Claims
