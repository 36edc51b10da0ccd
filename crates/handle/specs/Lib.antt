-- Which handle is answered for which bytes, and what a caller may rely on who has it:
pub mod Handles
-- What only proofs need:
pub mod Steps
