pub mod Decided
pub mod Erased
pub mod Spelt
