pub mod Faults
pub mod Versions
pub mod Footprints
pub mod Safety
pub mod Finishing
pub mod Reading
pub mod Standing
