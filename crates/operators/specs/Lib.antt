pub mod Operators
pub mod Places
pub mod Promises
pub mod Calls
pub mod Cases
