pub mod Entries
pub mod Selectors
pub mod Phases
pub mod Grades
pub mod Cases
