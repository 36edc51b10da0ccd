-- Laws that belong to no one function, lowest first.
pub mod Accepting
pub mod LookupsBack
pub mod Once
pub mod Meeting
pub mod Answered
pub mod Counted
pub mod Demanded
pub mod Claimed
pub mod Owned
pub mod Checked
