-- Laws that belong to no one function, lowest first.
pub mod Binds
pub mod Refused
pub mod Accepted
pub mod Within
pub mod After
pub mod ReadRising
pub mod Ends
pub mod Inversions
pub mod Shapes
pub mod Strings
pub mod Named
