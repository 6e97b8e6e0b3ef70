pub mod Contents
pub mod CutLaws
pub mod Objects
pub mod Past
pub mod Storable
