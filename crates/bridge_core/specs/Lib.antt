pub mod HeldRequests
pub mod Sending
pub mod Bridge
pub mod Laws
pub mod Inside
