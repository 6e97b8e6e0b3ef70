pub mod Manifests
pub mod ManifestFiles
pub mod ManifestFaults
