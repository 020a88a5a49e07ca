pub mod Outcomes
pub mod Positions
pub mod Reading
pub mod NameReaders
pub mod NumberReaders
