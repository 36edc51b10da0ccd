-- Laws that belong to no one function, lowest first.
pub mod Steps
pub mod Checking
pub mod Placing
pub mod Wholes
pub mod Found
pub mod Exactly
pub mod Words
pub mod Back
