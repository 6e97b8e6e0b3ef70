pub mod Times
pub mod Entries
pub mod TimeTexts
pub mod Codes
