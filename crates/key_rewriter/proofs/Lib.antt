pub mod Pairs
pub mod Rewrites
