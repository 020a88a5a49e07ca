pub mod Forms
pub mod Models
pub mod Terms
pub mod Types
pub mod Definitions
