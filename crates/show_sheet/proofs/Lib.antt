-- Laws that belong to no one function, lowest first.
pub mod Bars
pub mod Hits
pub mod Entries
pub mod Lines
pub mod Drawn
