pub mod Subdirectories
pub mod Books
pub mod BookView
pub mod Inserts
pub mod Laws
