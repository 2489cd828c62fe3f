pub mod ByteEvents
pub mod InsideValues
pub mod States
pub mod ValueMemory
