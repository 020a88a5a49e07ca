pub mod Format
pub mod Streaming
pub mod Trees
