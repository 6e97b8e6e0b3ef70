pub mod Lexing
pub mod Parting
pub mod Pieces
pub mod Quotes
pub mod Spelled
pub mod WordNames
