-- Laws that belong to no one function, lowest first.
pub mod Words
pub mod SingleNumbers
pub mod Gaps
pub mod DocumentReads
pub mod Seeks
pub mod DocumentCursors
pub mod DocumentsHeld
pub mod Entering
pub mod QuickSteps
pub mod ValueReads
pub mod PostingReads
pub mod Rising
