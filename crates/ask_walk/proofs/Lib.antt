-- Laws that belong to no one function, lowest first.
pub mod Here
pub mod Leaps
pub mod Stored
pub mod Walks
