pub mod Definitions
pub mod Rules
