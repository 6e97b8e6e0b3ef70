pub mod References
pub mod Places
pub mod Drops
pub mod Dropping
