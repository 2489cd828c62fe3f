pub mod Lanes
pub mod Lines
pub mod Operations
pub mod Requests
