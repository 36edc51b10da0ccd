-- Laws that belong to no one function, lowest first.
pub mod Filling
pub mod Reading
