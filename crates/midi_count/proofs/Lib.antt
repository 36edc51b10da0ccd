-- Lowest first.
pub mod StepsTold
pub mod Tallying
pub mod Runs
pub mod Sounding
