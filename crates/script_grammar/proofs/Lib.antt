pub mod Exactness
pub mod Families
pub mod PartsExact
pub mod Repeating
pub mod Rights
pub mod SourceTexts
