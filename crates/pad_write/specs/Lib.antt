-- What the call promises:
pub mod Promise
-- What only proofs need:
pub mod Steps
