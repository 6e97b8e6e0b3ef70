pub mod RowOrder
pub mod KeyReading
pub mod RowKeys
pub mod RowValues
pub mod Views
pub mod KeyChecking
pub mod FirstFaults
