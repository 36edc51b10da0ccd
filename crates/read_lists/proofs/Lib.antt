-- Laws that belong to no one function, lowest first.
pub mod DocumentsChecked
pub mod Heads
pub mod Positions
pub mod Taken
pub mod Tallies
pub mod MarksHeld
pub mod Nearer
pub mod Running
