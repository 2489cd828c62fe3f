pub mod EarlyFailures
pub mod GivenBytes
pub mod MadeBytes
pub mod NumberLists
pub mod Rising
