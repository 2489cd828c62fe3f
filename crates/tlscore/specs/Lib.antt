pub mod Endings
pub mod Version
pub mod Words
