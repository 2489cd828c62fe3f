pub mod Answers
pub mod Bridges
pub mod CallKinds
pub mod CommandTexts
pub mod HandleRuns
pub mod Handles
pub mod SetUps
