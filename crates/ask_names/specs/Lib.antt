-- What only proofs need:
pub mod Steps
pub mod Lists
