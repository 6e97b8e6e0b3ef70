pub mod Members
pub mod Bytes
pub mod Options
