-- Laws that belong to no one function, lowest first.
pub mod Answering
pub mod Finding
pub mod Longer
pub mod Asking
pub mod Turns
pub mod InDocument
pub mod SideBySide
