pub mod Ranges
pub mod SparseMemory
