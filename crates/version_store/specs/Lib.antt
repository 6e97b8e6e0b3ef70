pub mod Tables
pub mod Lists
pub mod Holding
pub mod Calls
pub mod Rows
pub mod MapHolding
