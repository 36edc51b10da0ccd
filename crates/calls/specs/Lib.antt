-- What a reader must believe, in the order to read it:
pub mod Replies
pub mod Lookups
pub mod Reads
pub mod Questions
pub mod Order
pub mod Ranked
pub mod Kept
pub mod Whole
pub mod Given
pub mod Checks
pub mod Acceptance
pub mod Writing
pub mod Sizes
pub mod Listing
pub mod Sheet
-- What is claimed of the definitions:
pub mod Claims
-- What only proofs need:
pub mod Steps
