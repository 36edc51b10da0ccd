-- What the calls promise:
pub mod Promise
pub mod Counter
-- What only proofs need:
pub mod Steps
