pub mod EntryLaws
pub mod ChunkLaws
pub mod HeldLaws
pub mod EntryOrder
pub mod FaultLaws
