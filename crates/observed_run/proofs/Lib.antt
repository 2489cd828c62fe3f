pub mod LiveReplies
pub mod RunsSeen
pub mod SeenBeats
pub mod SeenSteps
