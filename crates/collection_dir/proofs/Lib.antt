pub mod Parts
pub mod Steps
pub mod AfterRead
pub mod WriteChunk
pub mod OpenGate
pub mod VersionLaws
pub mod Removal
pub mod StandsLaws
