pub mod Lanes
pub mod Places
pub mod Tables
pub mod Text
