-- What a reader must believe:
pub mod Words
-- What is claimed of the definitions:
pub mod Claims
-- What is claimed across writer and sheet:
pub mod Written
