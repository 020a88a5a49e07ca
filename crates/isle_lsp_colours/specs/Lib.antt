pub mod Classes
pub mod Coloured
pub mod Keywords
pub mod Known
pub mod Names
pub mod Tokens
