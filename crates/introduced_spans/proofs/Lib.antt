pub mod Steps
pub mod Lists
pub mod Standing
pub mod Fulls
pub mod Walks
pub mod Untold
pub mod Longer
