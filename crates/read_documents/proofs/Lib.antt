-- Laws that belong to no one function, lowest first.
pub mod Lengths
pub mod Turns
