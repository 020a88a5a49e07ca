pub mod Walks
pub mod Recursion
pub mod Conversions
pub mod Views
