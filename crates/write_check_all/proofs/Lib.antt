-- Laws that belong to no one function, lowest first.
pub mod Walking
pub mod Left
pub mod ListsChecked
