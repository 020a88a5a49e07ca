pub mod ByText
pub mod Names
pub mod Types
pub mod Parts
pub mod Terms
pub mod Views
pub mod signatures
