-- Laws that belong to no one function, lowest first.
pub mod Room
pub mod Stored
pub mod Asked
pub mod Called
