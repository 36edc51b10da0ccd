-- What only proofs need:
pub mod Held
pub mod Singles
pub mod Steps
