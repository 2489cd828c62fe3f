pub mod InsideSerial
pub mod SerialMemory
