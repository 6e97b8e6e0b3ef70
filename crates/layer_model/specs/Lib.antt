pub mod Names
pub mod Layers
pub mod Stands
