pub mod MergeParts
pub mod Loading
pub mod StoredParts
