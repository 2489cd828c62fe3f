pub mod AlignedLanes
pub mod AtomicLaws
pub mod ByteLaws
pub mod FullMask
pub mod NumberLaws
pub mod Operands
pub mod Strobes
pub mod WordLaws
mod Examples
