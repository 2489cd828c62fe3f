pub mod InTurn
pub mod Meaning
