pub mod Positions
pub mod Reading
pub mod Words
pub mod StructParts
