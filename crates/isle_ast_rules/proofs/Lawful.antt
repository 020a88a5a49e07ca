pub mod Patterns
pub mod Expressions
pub mod Rules
