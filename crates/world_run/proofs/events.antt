pub mod OrderAnswers
pub mod OrderRequests
