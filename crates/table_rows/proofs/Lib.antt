pub mod Lists
pub mod Coded
pub mod Repeats
pub mod Shown
pub mod RowLaws
pub mod KeySizes
pub mod Runs
pub mod Passed
