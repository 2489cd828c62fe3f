pub mod ScoreSetups
