-- Laws that belong to no one function, lowest first.
pub mod Numbers
pub mod Shortest
