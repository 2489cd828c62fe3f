mod Examples
pub mod Cuts
pub mod FaultLaws
pub mod PageLaws
pub mod PieceLaws
pub mod PlanLaws
pub mod RequestWrites
pub mod TransferPlaces
pub mod TranslationLaws
pub mod WordBeats
pub mod WriteLaws
