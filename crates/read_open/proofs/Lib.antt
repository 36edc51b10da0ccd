-- Laws that belong to no one function, lowest first.
pub mod Sections
pub mod Checks
pub mod Entries
pub mod Lookup
pub mod Openings
pub mod Fitting
pub mod Own
