pub mod Told
pub mod Readers
pub mod Codes
pub mod Indexing
