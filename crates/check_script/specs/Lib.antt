pub mod Check
pub mod ClientPorts
pub mod CommandTexts
