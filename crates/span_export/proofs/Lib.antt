pub mod Merges
pub mod EntryOrder
pub mod Cuts
pub mod Left
pub mod Added
pub mod Exact
