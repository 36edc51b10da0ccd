-- What the contracts between crates speak of, and proofs need:
pub mod Steps
