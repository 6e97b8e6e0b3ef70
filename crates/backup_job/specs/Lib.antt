pub mod Jobs
pub mod Units
pub mod Searches
pub mod Whole
pub mod Records
