pub mod FullHistories
pub mod Histories
pub mod Mismatches
pub mod Refusals
pub mod Replays
pub mod Reports
