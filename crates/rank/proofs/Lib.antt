-- Laws that belong to no one function, lowest first.
pub mod Places
pub mod Heaped
pub mod Children
pub mod Sinks
pub mod Sorts
