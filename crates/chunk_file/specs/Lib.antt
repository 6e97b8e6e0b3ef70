pub mod Entries
pub mod Chunks
pub mod Held
pub mod Faults
