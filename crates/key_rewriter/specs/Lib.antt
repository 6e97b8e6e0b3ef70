pub mod Ids
pub mod Rewriting
