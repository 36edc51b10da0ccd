-- Laws that belong to no one function, lowest first.
pub mod Widths
pub mod Texts
pub mod Fitting
pub mod Indices
pub mod Listed
