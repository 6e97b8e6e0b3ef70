pub mod Names
pub mod Fields
pub mod Descriptors
pub mod DescriptorFiles
pub mod DescriptorView
pub mod Restoring
pub mod DescriptorFaults
