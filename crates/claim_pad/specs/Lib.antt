-- What a reader must believe, in the order to read it:
pub mod Sequences
pub mod Back
pub mod Counter
pub mod Phrases
pub mod Written
-- What the call promises:
pub mod Promise
-- What is claimed of the definitions:
pub mod Claims
pub mod Refusals
