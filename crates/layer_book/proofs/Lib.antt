pub mod Places
pub mod Joins
pub mod LayerOrder
pub mod FullTimes
pub mod Carried
