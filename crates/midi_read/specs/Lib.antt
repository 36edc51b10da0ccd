-- What a reader must believe, in the order to read it:
pub mod Files
pub mod Tracks
-- What the functions answer:
pub mod Promise
-- What is claimed of the definitions:
pub mod Claims
-- What only passes over a file need:
pub mod Walks
