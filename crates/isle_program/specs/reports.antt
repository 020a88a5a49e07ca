pub mod Formats
pub mod Messages
pub mod Colours
pub mod Objects
pub mod Annotations
pub mod Lines
pub mod Refusals
