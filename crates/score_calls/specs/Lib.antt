pub mod Answers
pub mod CallCommands
pub mod CallWords
pub mod HandleRuns
pub mod Handles
