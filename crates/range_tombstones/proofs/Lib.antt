pub mod Lists
pub mod DateLaws
pub mod KeyLaws
pub mod PieceLaws
pub mod SplitLaws
pub mod MadeLaws
pub mod CoverLaws
pub mod OriginalLaws
