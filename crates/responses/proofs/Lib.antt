pub mod AnswerLaws
pub mod OldValues
mod ReadLaws
pub mod ReadPlaces
mod ReplyRules
mod ReplyBytes
mod ShownLaws
mod Examples
