pub mod AcceptedRequests
pub mod BytesLeft
pub mod CarriedOut
pub mod HeldSteps
pub mod History
pub mod ListChanges
pub mod MainTheorem
pub mod OrderOpens
pub mod OrderSteps
pub mod OrderedRuns
pub mod RunLemmas
pub mod RunLoop
pub mod Told
pub mod bursts
pub mod events
mod examples
pub mod gathered
