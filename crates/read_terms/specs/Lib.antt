-- What the calls promise:
pub mod Promise
-- What only proofs need:
pub mod Steps
-- What lists that were decoded together promise:
pub mod Together
