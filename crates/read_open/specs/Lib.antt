-- The layout that the header's numbers make:
pub mod Layouts
-- What callers may rely on after opening, and when a layout fits some bytes:
pub mod Opened
-- What only proofs need:
pub mod Steps
