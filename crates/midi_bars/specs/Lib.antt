-- What a reader must believe, in the order to read it:
pub mod Bars
pub mod Loudness
pub mod Imports
pub mod Words
-- What is claimed of the definitions:
pub mod Claims
pub mod LoudClaims
