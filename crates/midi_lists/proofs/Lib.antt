-- Lowest first.
pub mod Heard
pub mod Filled
pub mod Sounds
pub mod Tables
