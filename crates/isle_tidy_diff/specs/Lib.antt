pub mod Edits
pub mod Unified
