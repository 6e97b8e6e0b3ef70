pub mod Catalogs
pub mod CatalogView
pub mod DropLaws
