pub mod Coding
pub mod Reading
pub mod Spelling
pub mod EscapeFaults
