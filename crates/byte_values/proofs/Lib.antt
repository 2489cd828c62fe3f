mod Examples
pub mod LaneLists
pub mod LaneSets
pub mod SeenLaws
pub mod SettleLaws
pub mod WordLaws
