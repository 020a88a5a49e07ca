pub mod Alone
pub mod CommandLine
pub mod Conversations
pub mod Formatted
pub mod Serving
