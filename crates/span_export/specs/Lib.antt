pub mod Plans
pub mod Entries
pub mod Pieces
pub mod Lists
