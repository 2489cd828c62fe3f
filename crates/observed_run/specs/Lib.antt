pub mod SeenRuns
