pub mod First
pub mod Variants
pub mod Types
pub mod Placed
pub mod Warnings
