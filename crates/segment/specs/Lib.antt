-- What a reader must believe, in the order to read it:
pub mod Refusals
pub mod Results
pub mod Names
pub mod Texts
pub mod Records
pub mod Metadata
pub mod Directory
pub mod Postings
pub mod Opening
pub mod Contents
pub mod Counts
pub mod Written
-- What is claimed of the definitions:
pub mod Claims
-- What only proofs need:
pub mod Steps
