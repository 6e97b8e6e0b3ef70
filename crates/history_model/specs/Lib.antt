pub mod Rows
pub mod Histories
pub mod Layers
pub mod RowTests
pub mod RepeatLaws
