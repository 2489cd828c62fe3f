pub mod FoundLemmas
pub mod HistoryLemmas
pub mod MismatchLemmas
pub mod ReplayLemmas
pub mod ReplaySteps
pub mod ReportLemmas
