pub mod Faults
pub mod RefusedBeats
pub mod SharedStates
pub mod Turns
