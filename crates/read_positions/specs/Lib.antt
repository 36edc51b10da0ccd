-- What the calls promise:
pub mod Promise
-- What only proofs need:
pub mod Steps
