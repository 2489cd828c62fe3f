pub mod SetupFaults
