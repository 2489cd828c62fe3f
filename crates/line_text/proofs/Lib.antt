mod AlikeLaws
mod EdgePlaces
mod HexLaws
mod LoadedLanes
pub mod NumberLaws
pub mod Parts
pub mod TraceTexts
mod WordBits
mod WordEdges
pub mod WordParts
mod WordPlaces
mod Writings
