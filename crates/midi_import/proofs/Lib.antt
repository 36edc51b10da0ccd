-- Lowest first.
pub mod Rooms
pub mod Listed
pub mod Tallied
pub mod Imported
