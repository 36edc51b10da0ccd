-- Laws that belong to no one function, lowest first.
pub mod Bridges
pub mod Members
pub mod Leap
pub mod Places
pub mod Chains
pub mod Counts
pub mod Counting
pub mod Views
