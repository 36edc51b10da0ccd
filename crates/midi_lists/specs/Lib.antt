-- The sounds and their heads:
pub mod Heads
-- What the functions promise:
pub mod Promise
-- That these are the lists of the hits:
pub mod Claims
