pub mod BelowEight
pub mod DistinctPlaces
pub mod FewDistinct
pub mod FirstPlaces
pub mod FoundChanges
pub mod Inclusion
pub mod LaneLaws
pub mod MappedPlaces
pub mod MaskLaws
pub mod PlaceChanges
pub mod Ranges
pub mod StoredPlaces
pub mod TableLaws
pub mod TextLaws
mod Examples
