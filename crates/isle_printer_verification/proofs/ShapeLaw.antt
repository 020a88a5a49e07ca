pub mod Models
pub mod Specs
pub mod SpecDefinitions
