pub mod Tokens
pub mod Spellings
