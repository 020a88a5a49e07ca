pub mod MappedLemmas
pub mod Texts
