-- Laws that belong to no one function, lowest first.
pub mod Runs
pub mod Walks
pub mod Columns
pub mod Cursors
pub mod Listed
pub mod Gathering
