pub mod Rules
pub mod Lets
pub mod Patterns
pub mod Finds
pub mod Unread
