-- What is claimed of the definitions:
pub mod Claims
