-- What a reader must believe:
pub mod Demand
-- What the call promises:
pub mod Promise
