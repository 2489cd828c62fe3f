pub mod BurstBytes
pub mod PerformedBytes
