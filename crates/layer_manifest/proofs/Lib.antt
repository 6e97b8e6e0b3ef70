pub mod Steps
pub mod FewChunks
pub mod ManifestLaws
pub mod ManifestWalks
