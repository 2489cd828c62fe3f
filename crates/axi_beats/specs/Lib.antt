pub mod Boxes
pub mod Bursts
pub mod Lines
pub mod Responses
pub mod Transfers
