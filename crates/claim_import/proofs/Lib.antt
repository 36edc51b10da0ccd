-- Lowest first.
pub mod Notes
pub mod Fronts
pub mod Told
