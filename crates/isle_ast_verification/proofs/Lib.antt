pub mod Equalities
pub mod ErasedSpecs
pub mod Lawful
pub mod Parts
pub mod Same
pub mod SpecLets
pub mod Writable
