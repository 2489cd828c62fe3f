pub mod Answers
pub mod Gathered
pub mod Inside
pub mod RightReplies
pub mod Shown
