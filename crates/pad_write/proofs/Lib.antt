-- Laws that belong to no one function, lowest first.
pub mod Sounds
pub mod Bounds
pub mod Parts
pub mod Tallying
pub mod Storing
pub mod OneSound
pub mod Segment
pub mod Answered
