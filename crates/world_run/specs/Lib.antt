pub mod Headline
pub mod InOrder
pub mod Runs
pub mod Serial
