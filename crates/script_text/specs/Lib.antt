pub mod Forms
pub mod Reads
pub mod Scripts
pub mod SetupLines
pub mod SetupRules
pub mod Stages
pub mod Steps
pub mod Stops
