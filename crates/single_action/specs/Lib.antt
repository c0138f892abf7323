pub mod Marks
pub mod Setvar
pub mod Table
pub mod Actions
pub mod Flaws
pub mod Plans
pub mod Cases
