pub mod BeatCounts
mod Examples
pub mod LineLaws
