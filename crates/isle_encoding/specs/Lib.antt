pub mod Numbers
pub mod Names
pub mod Rules
pub mod Operators
pub mod Verification
pub mod Encoded
pub mod findings
