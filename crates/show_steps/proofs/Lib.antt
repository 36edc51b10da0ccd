-- Laws that belong to no one function, lowest first.
pub mod Marks
pub mod Lines
