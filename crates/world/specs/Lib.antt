pub mod Choices
pub mod Inside
pub mod Laws
pub mod World
