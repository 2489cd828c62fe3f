pub mod PageMap
pub mod Pieces
pub mod PlannedBursts
pub mod PlannedTransfers
