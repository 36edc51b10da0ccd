-- Laws of the map, lowest first.
pub mod Lookups
pub mod Mapped
pub mod Ordered
pub mod Saved
pub mod Room
pub mod Outside
pub mod Alike
