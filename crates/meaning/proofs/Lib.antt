pub mod GivenBytes
pub mod SerialOldValues
pub mod SerialReplies
