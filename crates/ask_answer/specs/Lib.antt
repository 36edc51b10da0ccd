-- What an answer by a layout is:
pub mod Promise
-- What only proofs need:
pub mod Steps
