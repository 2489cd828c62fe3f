pub mod Beginnings
pub mod Counting
pub mod FilledMemory
pub mod Going
pub mod HeldLaws
pub mod MemoryGoes
pub mod RangeWords
pub mod StateSteps
