-- Laws that belong to no one function, lowest first.
pub mod Answering
pub mod Sought
pub mod Seeking
pub mod Turns
