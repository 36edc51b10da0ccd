-- What "surely in order" promises:
pub mod Promise
-- What only proofs need:
pub mod Steps
