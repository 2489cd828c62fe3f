pub mod FrontLemmas
pub mod PortLemmas
pub mod RefusalLemmas
pub mod TurnLemmas
