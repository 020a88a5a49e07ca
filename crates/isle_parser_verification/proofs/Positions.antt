pub mod Models
pub mod Specs
