pub mod Parts
pub mod Variables
pub mod Layout
pub mod Promises
pub mod Steps
pub mod Cores
pub mod Calls
pub mod Cases
