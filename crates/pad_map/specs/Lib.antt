-- What a reader must believe, in the order to read it:
pub mod Bars
pub mod Rules
pub mod Acts
-- What is claimed of the definitions:
pub mod Claims
