-- Laws that belong to no one function, lowest first.
pub mod Idle
pub mod Known
pub mod Walked
pub mod Led
pub mod Any
pub mod Own
