pub mod RowTables
pub mod Checks
