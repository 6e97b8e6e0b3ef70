pub mod Told
pub mod Places
pub mod Parts
pub mod Loads
pub mod LoadLaws
