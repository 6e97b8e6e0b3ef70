pub mod ByName
pub mod Kept
pub mod Names
pub mod PutSyncPut
mod ReplacingSteps
pub mod Runs
