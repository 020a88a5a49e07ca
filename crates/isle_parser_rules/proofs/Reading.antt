pub mod Constants
pub mod Patterns
pub mod Expressions
pub mod Conditions
pub mod Rules
