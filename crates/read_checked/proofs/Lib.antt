-- Laws that belong to no one function, lowest first.
pub mod Own
pub mod Counting
pub mod Answers
