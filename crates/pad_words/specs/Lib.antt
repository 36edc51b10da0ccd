-- What a reader must believe, in the order to read it:
pub mod Words
pub mod Whole
pub mod Calls
-- What is claimed of the definitions:
pub mod Claims
-- What the contracts between crates speak of, and proofs need:
pub mod Steps
