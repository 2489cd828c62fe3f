pub mod Endings
pub mod Modes
pub mod Results
pub mod Threads
pub mod Words
