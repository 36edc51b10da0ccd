-- Laws that belong to no one function, lowest first.
pub mod Those
pub mod Answered
pub mod Claimed
