pub mod AllValues
pub mod ClientValues
pub mod Found
pub mod Given
pub mod Values
