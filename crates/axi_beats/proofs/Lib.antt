mod Examples
pub mod Ranges
pub mod Sizes
pub mod TransferLaws
