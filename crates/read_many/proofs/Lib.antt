-- Laws that belong to no one function, lowest first.
pub mod Words
pub mod Passing
pub mod ShortPostings
pub mod Entries
pub mod Cursors
