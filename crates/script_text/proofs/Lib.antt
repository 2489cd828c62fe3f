mod Blocks
mod ConfigLines
mod Endings
pub mod FixedEndings
pub mod LineRooms
pub mod PageLists
mod PlainLines
mod Progress
mod ScriptLines
pub mod StageSteps
pub mod Stopping
pub mod ToldFields
