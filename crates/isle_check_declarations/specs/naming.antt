pub mod Roots
pub mod Extractors
pub mod Converters
pub mod Externs
pub mod Views
