-- What every crate shares, in the order to read it:
pub mod Elements
pub mod Members
pub mod Lists
pub mod Slices
pub mod Stores
