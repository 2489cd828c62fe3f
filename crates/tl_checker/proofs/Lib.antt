pub mod BeatRules
mod Examples
pub mod Fronts
pub mod MaskSubsets
pub mod PortLaws
pub mod ReplyLaws
pub mod RequestLaws
pub mod SpellingLaws
pub mod Taken
pub mod Taking
