pub mod Spelt
pub mod Decided
pub mod Erased
