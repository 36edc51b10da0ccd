-- What a reader must believe, in the order to read it:
pub mod Own
pub mod Demand
-- What the calls promise:
pub mod Promise
-- What is claimed of the definitions:
pub mod Claims
pub mod Checked
