pub mod Bytes
pub mod Histories
pub mod Places
pub mod RunOrders
pub mod Blames
pub mod Events
