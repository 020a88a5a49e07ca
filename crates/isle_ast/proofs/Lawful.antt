pub mod Forms
pub mod ModelContents
pub mod Terms
pub mod Types
pub mod Definitions
