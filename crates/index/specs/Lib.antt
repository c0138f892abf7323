pub mod Standing
pub mod Histories
pub mod Words
pub mod Promises
pub mod Runs
pub mod Steps
pub mod Cases
