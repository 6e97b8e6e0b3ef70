pub mod Numerals
pub mod TimeOrder
pub mod CodeLaws
