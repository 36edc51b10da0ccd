-- Laws that belong to no one function, lowest first.
pub mod Lists
pub mod Sure
pub mod Handles
