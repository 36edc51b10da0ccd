-- Laws that belong to no one function, lowest first.
pub mod Checking
pub mod Measuring
pub mod Gaps
pub mod Use
