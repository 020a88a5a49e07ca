pub mod Flags
pub mod Keywords
pub mod Reading
pub mod Positions
pub mod Lists
pub mod Whole
pub mod NextDefinition
