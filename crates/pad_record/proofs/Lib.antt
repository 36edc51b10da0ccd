-- Laws that belong to no one function, lowest first.
pub mod Moving
pub mod Splits
pub mod Erasing
pub mod Saving
pub mod Promised
