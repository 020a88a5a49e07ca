pub mod Entries
pub mod ByTexts
pub mod Signatures
pub mod Environment
pub mod Views
