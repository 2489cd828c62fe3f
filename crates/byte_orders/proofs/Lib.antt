pub mod AsWhole
pub mod Changes
mod Examples
pub mod KeptExact
pub mod KeptShort
pub mod LastGivers
pub mod Members
pub mod RunsRightly
pub mod ShorterLists
pub mod ShortLists
pub mod ToldRightly
pub mod QuietEvents
pub mod Leading
pub mod QuietSwap
