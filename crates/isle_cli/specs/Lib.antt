pub mod Arguments
pub mod Failure
pub mod Messages
pub mod Patterns
pub mod Sources
pub mod Streams
pub mod Usage
pub mod Words
