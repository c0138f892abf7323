pub mod Codes
pub mod Actions
pub mod Layout
pub mod Marks
pub mod Decoding
pub mod Cases
