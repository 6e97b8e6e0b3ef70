pub mod FieldTexts
pub mod NameLaws
pub mod LayerLaws
pub mod StandsLaws
