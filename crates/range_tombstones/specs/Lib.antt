pub mod Intervals
pub mod Dates
pub mod Ranges
pub mod Pieces
