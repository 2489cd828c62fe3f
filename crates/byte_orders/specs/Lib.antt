pub mod Accesses
pub mod Exact
pub mod Holdings
pub mod Keeping
pub mod Runs
