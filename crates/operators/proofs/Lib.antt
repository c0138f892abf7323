pub mod NameLaws
pub mod PlaceLaws
pub mod FindLaws
pub mod FoundLaws
pub mod AnswerLaws
pub mod GivenLaws
pub mod PromiseLaws
