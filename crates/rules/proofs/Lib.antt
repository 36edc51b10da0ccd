-- Laws that belong to no one function, lowest first.
pub mod Chains
pub mod Starts
pub mod Counts
pub mod Windows
pub mod RulesHold
pub mod Asked
pub mod Different
pub mod Idle
