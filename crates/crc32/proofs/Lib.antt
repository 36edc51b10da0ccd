-- Laws that belong to no one function, lowest first.
pub mod Xor
pub mod Registers
pub mod Division
pub mod Parts
pub mod Carried
