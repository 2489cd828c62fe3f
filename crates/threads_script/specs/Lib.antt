pub mod Asked
pub mod Lists
pub mod ReportTexts
