pub mod NameLemmas
pub mod VariantLemmas
