-- Laws that belong to no one function, lowest first.
pub mod Bytes
pub mod Elements
pub mod Loops
pub mod Kept
pub mod Membership
pub mod OneMore
pub mod Pairs
pub mod Rising
pub mod ToCome
pub mod Sets
pub mod Stores
