pub mod Fields
pub mod OfferLines
pub mod PlainRuns
pub mod Traces
pub mod Words
pub mod Writing
