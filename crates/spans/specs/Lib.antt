pub mod Conversion
pub mod Promises
pub mod Cases
