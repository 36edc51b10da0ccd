-- Laws that belong to no one function, lowest first.
pub mod Sets
pub mod Entries
pub mod Whole
