pub mod GatheredAnswers
pub mod GatheredSteps
