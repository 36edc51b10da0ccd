-- Laws that belong to no one function, lowest first.
pub mod Columns
pub mod Names
