mod PagesAlone
pub mod ScoreSetupFaults
