-- The filling pass:
pub mod Stores
-- What the functions promise:
pub mod Promise
-- What the pass comes to:
pub mod Claims
