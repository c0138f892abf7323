pub mod EntryLaws
pub mod FindLaws
pub mod GradeLaws
pub mod PassLaws
