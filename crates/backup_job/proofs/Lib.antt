pub mod Remaining
pub mod Parts
pub mod Stepping
pub mod Disks
pub mod Starts
pub mod Bare
pub mod Whole
pub mod Going
