pub mod EditedTexts
pub mod Edits
pub mod Ranges
