pub mod Ways
pub mod Cover
pub mod Steps
pub mod Tasks
pub mod Reaching
pub mod Best
