-- Laws that belong to no one function, lowest first.
pub mod Acting
pub mod Back
pub mod Alike
pub mod Listed
pub mod Fine
pub mod Named
pub mod Hits
pub mod Writable
pub mod Sized
pub mod Refused
pub mod Counter
pub mod Typed
pub mod Searched
pub mod Told
