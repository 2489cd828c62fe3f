pub mod Answers
pub mod CommandTexts
pub mod Run
