-- Laws that belong to no one function, lowest first.
pub mod ListTurns
pub mod SlotTurns
pub mod SlotsHold
pub mod SlotsNamed
pub mod Resolving
pub mod SlotsUsed
pub mod Leads
pub mod TextTurns
