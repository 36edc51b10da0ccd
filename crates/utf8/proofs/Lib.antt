-- Laws that belong to no one function, lowest first.
pub mod Ranges
pub mod Text
pub mod Decoded
