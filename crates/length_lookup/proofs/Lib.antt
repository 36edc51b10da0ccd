-- Laws that belong to no one function, lowest first.
pub mod Places
pub mod Checking
pub mod Looking
-- The claims:
pub mod Claimed
