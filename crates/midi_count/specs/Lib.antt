-- The counting pass:
pub mod Tallies
-- What the functions promise:
pub mod Promise
-- What the pass comes to:
pub mod Claims
