pub mod Cells
pub mod Scans
pub mod Tables
pub mod Sites
pub mod Moves
pub mod Steps
pub mod Cases
