pub mod MappedLists
pub mod NextReplies
pub mod Openings
pub mod OperationPlaces
pub mod PlacesInLists
pub mod acceptance_order
pub mod held
pub mod real_time
